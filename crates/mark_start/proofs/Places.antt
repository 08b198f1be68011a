-- What is known of cells and registers at a mark.
use Rattle.std.proofs.Common.{◌≡◌, ◌≢◌, ℕ, ◌+◌, ◌-◌, ◌<◌, ◌≤◌, zero, suc, inl, inr, Bool, true, false, not, is_some, List, [], ◌∷◌, ◌++◌, length, length-append, Option, Some, None, ◌∙◌, sym, ap, refl, subst, slice_get, slice_index, slice_set, arith}
use Rattle.std.proofs.lemmas.Bool.{cases_lt}
use Rattle.std.proofs.lemmas.List.{length-set}
use Rattle.std.proofs.lemmas.Option.{slice_get_past}
use Rattle.rec_bits.proofs.Lists.{get_left, get_seam}
use Rattle.net_model.specs.declared.hardware.Space.TheVariants.{Memory as InMemory}
use Rattle.net_model.specs.Exprs.{ExprModel, cell, const, read, reg}
use Rattle.net_model.specs.Meaning.{mean}
use Rattle.tree_laws.specs.Equal.{memory_alone}
use Rattle.sym_expr.specs.declared.pool.Node.{Node}
use Rattle.sym_expr.specs.Pools.{expr_of_id}
use Rattle.sym_run.specs.declared.known.Cell.{Cell}
use Rattle.sym_run.specs.declared.known.Cell.TheVariants.{Unknown, Kept, Array, Is}
use Rattle.sym_run.specs.declared.known.Known.{Known}
use Rattle.class_values.specs.Values.{Holds}
use Rattle.sym_run.specs.Known.{HoldsOf, cell_at, cell_of, entry}
use Rattle.sym_run.specs.Moves.{IsWritten, NextCells, cell_for}
use Rattle.sym_run.proofs.Writing.{set_cells, set_elsewhere}
use Rattle.mark_start.specs.declared.hints.Spot.{Spot}
use Rattle.mark_start.specs.Marked.{AreViewless, IsInArrays, IsKeptBy, SeenBy}
use Rattle.mark_start.specs.Runs.{AreStartCells, ArraysIn, IsStartCell, IsToldCell, IsToldFile, IsToldOf, IsToldReg, IsToldVar}

-- ---- registers

pub entry_set : (P : Option ℕ → Type 0) (xs : List (Option ℕ)) (i r : ℕ) (o : Option ℕ) → i < length xs → (r ≡ i → P o) → ((r ≢ i) → P (entry xs r)) → P (entry (slice_set xs i o) r)
entry_set P [] i r o lt f g = absurd (omega arith)
entry_set P (x ∷ xs) zero zero o lt f g = f refl
entry_set P (x ∷ xs) zero (suc r) o lt f g = g (λ e. omega (arith, e))
entry_set P (x ∷ xs) (suc i) zero o lt f g = g (λ e. omega (arith, e))
entry_set P (x ∷ xs) (suc i) (suc r) o lt f g = entry_set P xs i r o (omega arith) (λ e. f (ap suc e)) (λ n. g (λ e. n (omega (arith, e))))

pub reg_told : (old : Known) (register class : ℕ) (regs : List (Option ℕ)) → register < length old.regs → regs ≡ slice_set old.regs register (Some class)
    → IsToldReg register class old (record { regs = regs; cells = old.cells; inside = old.inside; puts = old.puts; file = old.file })
reg_told old register class regs lt e table memory s h k = record {
  fits = h.fits;
  room = h.room;
  regs = λ r. subst (λ (xs : List (Option ℕ)). HoldsOf table memory (entry xs r) (slice_index s.regs r)) (sym e)
      (entry_set (λ o. HoldsOf table memory o (slice_index s.regs r)) old.regs register r (Some class) lt
      (λ is. subst (λ n. Holds table memory class (slice_index s.regs n)) (sym is) k) (λ ne. h.regs r));
  cells = h.cells;
  inside = h.inside;
  arrays = h.arrays;
  file = h.file;
}

pub file_told : (old : Known) (address class : ℕ) (file : List (Option ℕ)) → address < length old.file → file ≡ slice_set old.file address (Some class)
    → IsToldFile address class old (record { regs = old.regs; cells = old.cells; inside = old.inside; puts = old.puts; file = file })
file_told old address class file lt e table memory s h k = record {
  fits = h.fits;
  room = h.room;
  regs = h.regs;
  cells = h.cells;
  inside = h.inside;
  arrays = h.arrays;
  file = record {
    there = (let l = h.file.there in subst (λ (xs : List (Option ℕ)). length xs ≤ length s.file) (sym e) (omega (arith, l, length-set old.file address (Some class))));
    are = λ a. subst (λ (xs : List (Option ℕ)). HoldsOf table memory (entry xs a) (slice_index s.file a)) (sym e)
        (entry_set (λ o. HoldsOf table memory o (slice_index s.file a)) old.file address a (Some class) lt
        (λ is. subst (λ n. Holds table memory class (slice_index s.file n)) (sym is) k) (λ ne. h.file.are a));
  };
}

-- ---- cells

set_same : (xs : List ℕ) (a : ℕ) → slice_set xs a (slice_index xs a) ≡ xs
set_same [] a = refl
set_same (x ∷ xs) zero = refl
set_same (x ∷ xs) (suc a) = ap (λ (ys : List ℕ). x ∷ ys) (set_same xs a)

unknown_plain : (o : Option Cell) → o ≡ Some Unknown → cell_of o ≢ Array
unknown_plain o e f = (let g : Unknown ≡ Array = sym (ap cell_of e) ∙ f in absurd (cc))

pub cell_told : (old : Known) (address class : ℕ) (cells : List Cell) → slice_get old.cells address ≡ Some Unknown → cells ≡ slice_set old.cells address (Is class)
    → IsToldCell address class old (record { regs = old.regs; cells = cells; inside = old.inside; puts = old.puts; file = old.file })
cell_told old address class cells there e table memory s h k =
    let n : NextCells table memory cells old.inside old.puts s.cells =
    subst (λ (xs : List Cell). NextCells table memory xs old.inside old.puts s.cells) (sym e)
    (subst (NextCells table memory (slice_set old.cells address (Is class)) old.inside old.puts) (set_same s.cells address)
    (set_cells table memory old s h address (slice_index s.cells address) (Some class) (unknown_plain (slice_get old.cells address) there) k)) in
    record { fits = h.fits; room = n.room; regs = h.regs; cells = n.cells_are; inside = n.are_inside; arrays = n.arrays; file = h.file }

kept_plain : (o : Option Cell) → o ≡ Some Kept → cell_of o ≢ Array
kept_plain o e f = (let g : Kept ≡ Array = sym (ap cell_of e) ∙ f in absurd (cc))

pub var_told : (old : Known) (address class : ℕ) (cells : List Cell) → slice_get old.cells address ≡ Some Kept → cells ≡ slice_set old.cells address (Is class)
    → IsToldVar address class old (record { regs = old.regs; cells = cells; inside = old.inside; puts = old.puts; file = old.file })
var_told old address class cells there e table memory now h k =
    let n : NextCells table memory cells old.inside old.puts now =
    subst (λ (xs : List Cell). NextCells table memory xs old.inside old.puts now) (sym e)
    (subst (NextCells table memory (slice_set old.cells address (Is class)) old.inside old.puts) (set_same now address)
    (set_cells table memory old (memory_alone now) h address (slice_index now address) (Some class) (kept_plain (slice_get old.cells address) there) k)) in
    record { fits = h.fits; room = n.room; regs = h.regs; cells = n.cells_are; inside = n.are_inside; arrays = n.arrays; file = h.file }

pub var_arrays : (old cells : List Cell) (address class : ℕ) → slice_get old address ≡ Some Kept → cells ≡ slice_set old address (Is class) → (spots : List Spot) → ArraysIn spots old → ArraysIn spots cells
var_arrays old cells address class there e spots h a i =
    ap (λ (xs : List Cell). cell_at xs a) e ∙ ap cell_of (set_elsewhere old address a (Is class) (λ same. kept_plain (slice_get old address) there (ap (cell_at old) (sym same) ∙ h a i))) ∙ h a i

pub cell_arrays : (old cells : List Cell) (address class : ℕ) → slice_get old address ≡ Some Unknown → cells ≡ slice_set old address (Is class) → (spots : List Spot) → ArraysIn spots old → ArraysIn spots cells
cell_arrays old cells address class there e spots h a i =
    ap (λ (xs : List Cell). cell_at xs a) e ∙ ap cell_of (set_elsewhere old address a (Is class) (λ same. unknown_plain (slice_get old address) there (ap (cell_at old) (sym same) ∙ h a i))) ∙ h a i

-- ---- places

pub reg_place : (pool : List Node) (place register width class : ℕ) (old new : Known) → expr_of_id pool place ≡ reg register width → IsToldReg register class old new → IsToldOf pool place class old new
reg_place pool place register width class old new e told table memory s h k =
    told table memory s h (subst (λ (x : ExprModel). Holds table memory class (mean x s 0)) e k)

pub cell_place : (pool : List Node) (place address bits width class : ℕ) (old new : Known) → expr_of_id pool place ≡ read InMemory (const bits address) width → IsToldCell address class old new → IsToldOf pool place class old new
cell_place pool place address bits width class old new e told table memory s h k =
    told table memory s h (subst (λ (x : ExprModel). Holds table memory class (mean x s 0)) e k)

pub file_place : (pool : List Node) (place address bits width class : ℕ) (old new : Known) → expr_of_id pool place ≡ cell (const bits address) width → IsToldFile address class old new → IsToldOf pool place class old new
file_place pool place address bits width class old new e told table memory s h k =
    told table memory s h (subst (λ (x : ExprModel). Holds table memory class (mean x s 0)) e k)

-- ---- the start

pub kept_by : (spot : Spot) (a : ℕ) → spot.hidden ≡ false → spot.view ≡ None → spot.address ≤ a → a < spot.address + spot.len → IsKeptBy spot a
kept_by spot a shown none le lt pool s cells seen =
    let f = subst (λ o. SeenBy pool o spot.address spot.len s cells) none (seen shown) in
    let e : spot.address + (a - spot.address) ≡ a = omega (arith, le) in
    subst (λ n. slice_index s.cells n ≡ slice_index cells n) e (f (a - spot.address) (omega (arith, le, lt)))

pub start_none : (spots : List Spot) (machine : Bool) → AreStartCells spots machine 0 []
start_none spots machine = record { count = refl; are = λ a. tt; arrays = λ v a lt i. absurd (omega arith) }

pub start_more : (spots : List Spot) (machine : Bool) (a : ℕ) (cells next : List Cell) (cell : Cell) → AreStartCells spots machine a cells → next ≡ cells ++ cell ∷ []
    → IsStartCell spots machine a cell → (AreViewless spots → IsInArrays spots a → cell ≡ Array) → AreStartCells spots machine (a + 1) next
start_more spots machine a cells next cell h e is array = subst (AreStartCells spots machine (a + 1)) (sym e) (record {
  count = length-append cells (cell ∷ []) ∙ ap (λ n. n + 1) h.count;
  are = λ k. at k (λ x. IsStartCell spots machine k x) (λ less. h.are k) (λ same. subst (λ n. IsStartCell spots machine n cell) (sym same) is) (λ past. tt);
  arrays = λ v k lt i. at k (λ x. x ≡ Array) (λ less. h.arrays v k less i) (λ same. array v (subst (IsInArrays spots) same i)) (λ past. absurd (omega (arith, lt, past)));
})
  where
    at : (k : ℕ) (P : Cell → Type 0) → (k < a → P (cell_at cells k)) → (k ≡ a → P cell) → (a < k → P Unknown) → P (cell_at (cells ++ cell ∷ []) k)
    at k P less same past =
        let count = h.count in
        elim (cases_lt k a) as (λ _. P (cell_at (cells ++ cell ∷ []) k)) [
          | inl lt ↦ subst (λ (o : Option Cell). P (cell_of o)) (sym (get_left cells (cell ∷ []) k (omega (arith, count, lt)))) (less lt)
          | inr ge ↦ elim (cases_lt a k) as (λ _. P (cell_at (cells ++ cell ∷ []) k)) [
            | inl gt ↦ subst (λ (o : Option Cell). P (cell_of o)) (sym (slice_get_past (cells ++ cell ∷ []) k (omega (arith, gt, count, length-append cells (cell ∷ []))))) (past gt)
            | inr le ↦ (let here : length cells ≡ k = omega (arith, ge, le, count) in
                subst (λ n. P (cell_at (cells ++ cell ∷ []) n)) here
                (subst (λ (o : Option Cell). P (cell_of o)) (sym (get_seam cells cell [])) (same (omega (arith, ge, le)))))
          ]
        ]

pub view_none : (o : Option ℕ) (b : Bool) → is_some o ≡ not b → b ≡ true → o ≡ None
view_none None b e f = refl
view_none (Some x) b e f = absurd (neither b e f)
  where
    neither : (b : Bool) → true ≡ not b → b ≡ true → ⊥
    neither true e f = cc
    neither false e f = cc

-- behind a write no array's cell is another
pub write_arrays : (old next : List Cell) (address : ℕ) (value : Option ℕ) → IsWritten old address value next → (spots : List Spot) → ArraysIn spots old → ArraysIn spots next
write_arrays old next address value w spots h a i =
    ap (λ (xs : List Cell). cell_at xs a) w.same ∙ ap cell_of (set_elsewhere old address a (cell_for value) (λ same. w.plain (ap (cell_at old) (sym same) ∙ h a i))) ∙ h a i
