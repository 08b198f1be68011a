-- What is known of the memory behind a word.
use Rattle.std.proofs.Common.{◌≡◌, ◌≢◌, inl, inr, ℕ, ◌<◌, ◌≤◌, List, [], ◌∷◌, length, zero, suc, Option, Some, None, Result, Ok, Err, ◌∙◌, sym, ap, refl, subst, slice_get, slice_index, slice_set, arith}
use Rattle.std.proofs.Math.Logic.{∥∥₁_elim}
use Rattle.std.proofs.Math.Nat.{ℕ_set}
use Rattle.std.proofs.lemmas.Bool.{cases_eq, cases_lt}
use Rattle.std.proofs.lemmas.List.{get_or-set_other, get_or-set_same, length-set}
use Rattle.std.proofs.lemmas.Option.{none-some, slice_get-get_or, slice_get_past}
use Rattle.std.specs.Prelude.{IfOk, IfSome}
use Rattle.net_model.specs.declared.states.State.{State}
use Rattle.net_model.specs.Exprs.{ExprModel, TransferModel, keep, write, write_at}
use Rattle.net_model.specs.Meaning.{mean}
use Rattle.net_model.specs.Transfers.{cells_moved, reg_moved}
use Rattle.tree_laws.specs.declared.classes.Classes.{Classes}
use Rattle.tree_laws.specs.Equal.{CellsFit}
use Rattle.tree_laws.specs.Classes.{Grows, cell_bits}
use Rattle.sym_expr.specs.declared.pool.Node.{Node}
use Rattle.sym_run.specs.declared.moves.Move.{Move}
use Rattle.sym_run.specs.declared.known.Element.{Element}
use Rattle.class_values.specs.declared.facts.Fact.{Fact}
use Rattle.sym_run.specs.declared.known.Known.{Known}
use Rattle.sym_run.specs.declared.known.Cell.{Cell}
use Rattle.sym_run.specs.declared.known.Cell.TheVariants.{Unknown, Array}
use Rattle.class_values.specs.Values.{AreFacts, HasNumber, Holds}
use Rattle.sym_run.specs.Known.{ArraysStand, AreInside, CellStands, Evaluates, FileStands, HoldsOf, StandsFor, cell_at, cell_of, entry}
use Rattle.sym_run.specs.Moves.{AreNextCells, AreNextRegs, AreUnknown, IsNextFile, IsNextPut, IsOfArray, IsOneMore, IsWritten, LeadsOn, NextCells, cell_for, transfer_of}
use Rattle.sym_run.specs.declared.known.Put.{Put}
use Rattle.sym_run.specs.Inner.Reading.{SomeAlias}
use Rattle.sym_run.proofs.PutLemmas.{element_put, plain_put}
use Rattle.sym_run.proofs.Cells.{find_inside}
use Rattle.class_values.proofs.Keeping.{facts_kept, holds_kept}
use Rattle.sym_run.proofs.Keeping.{arrays_kept, cell_kept, file_kept, inside_kept, known_kept, of_kept}

moved_long : (move : TransferModel) (s : State) (i : ℕ) (held : List ℕ) → length (cells_moved move s i held) ≡ length held
moved_long keep s i held = refl
moved_long (write e) s i held = refl
moved_long (write_at a e) s i held = length-set held (mean a s i) (mean e s i)

-- a class has one value
pub number_is : (t : Classes) (memory : List ℕ) → CellsFit (cell_bits t) memory → (c n k : ℕ) → Holds t memory c n → Holds t memory c k → n ≡ k
number_is t memory fits c n k h j = ∥∥₁_elim t.meanings (ℕ_set _ _) (λ m. let x = m memory fits in sym (h.value x.0 x.1) ∙ j.value x.0 x.1)

pub set_there : (xs : List Cell) (i : ℕ) (x : Cell) → i < length xs → slice_get (slice_set xs i x) i ≡ Some x
set_there [] i x h = absurd (omega arith)
set_there (y ∷ xs) zero x h = refl
set_there (y ∷ xs) (suc i) x h = set_there xs i x (omega arith)

pub set_elsewhere : (xs : List Cell) (i j : ℕ) (x : Cell) → j ≢ i → slice_get (slice_set xs i x) j ≡ slice_get xs j
set_elsewhere [] i j x h = refl
set_elsewhere (y ∷ xs) zero zero x h = absurd (h refl)
set_elsewhere (y ∷ xs) zero (suc j) x h = refl
set_elsewhere (y ∷ xs) (suc i) zero x h = refl
set_elsewhere (y ∷ xs) (suc i) (suc j) x h = set_elsewhere xs i j x (λ e. h (ap suc e))

pub array_below : (cells : List Cell) (a : ℕ) → cell_at cells a ≡ Array → a < length cells
array_below [] a e = absurd (cc e)
array_below (c ∷ cells) zero e = omega arith
array_below (c ∷ cells) (suc a) e = (let h = array_below cells a e in omega arith)

pub set_past : (xs : List Cell) (i : ℕ) (x : Cell) → length xs ≤ i → slice_set xs i x ≡ xs
set_past [] i x h = refl
set_past (y ∷ xs) zero x h = absurd (omega arith)
set_past (y ∷ xs) (suc i) x h = ap (λ l. y ∷ l) (set_past xs i x (omega arith))

no_array : (o : Option ℕ) → cell_for o ≡ Array → ⊥
no_array None e = cc
no_array (Some c) e = cc

module _ (t : Classes) (memory : List ℕ) (known : Known) (s : State) (h : StandsFor t memory known s) where
  pub same_cells : NextCells t memory known.cells known.inside known.puts s.cells
  same_cells = record { room = h.room; cells_are = h.cells; are_inside = h.inside; arrays = h.arrays }

  module _ (address n : ℕ) (value : Option ℕ) (plain : cell_at known.cells address ≢ Array) (holds : HoldsOf t memory value n) where
    for_value : (o : Option ℕ) → HoldsOf t memory o n → (was : ℕ) → CellStands t memory (cell_for o) n was
    for_value None k was = tt
    for_value (Some c) k was = k

    cells_set : (a : ℕ) → CellStands t memory (cell_at (slice_set known.cells address (cell_for value)) a) (slice_index (slice_set s.cells address n) a) (slice_index memory a)
    cells_set a = elim (cases_eq a address) as (λ _. CellStands t memory (cell_at (slice_set known.cells address (cell_for value)) a) (slice_index (slice_set s.cells address n) a) (slice_index memory a)) [
      | inl here ↦ subst (λ k. CellStands t memory (cell_at (slice_set known.cells address (cell_for value)) k) (slice_index (slice_set s.cells address n) k) (slice_index memory k)) (sym here)
          (elim (cases_lt address (length known.cells)) as (λ _. CellStands t memory (cell_at (slice_set known.cells address (cell_for value)) address) (slice_index (slice_set s.cells address n) address) (slice_index memory address)) [
            | inl inside ↦ subst (λ (o : Option Cell). CellStands t memory (cell_of o) (slice_index (slice_set s.cells address n) address) (slice_index memory address)) (sym (set_there known.cells address (cell_for value) inside))
                (subst (λ k. CellStands t memory (cell_for value) k (slice_index memory address)) (sym (get_or-set_same s.cells address n 0 (omega (arith, inside, h.room)))) (for_value value holds (slice_index memory address)))
            | inr past ↦ subst (λ (o : Option Cell). CellStands t memory (cell_of o) (slice_index (slice_set s.cells address n) address) (slice_index memory address)) (sym (slice_get_past (slice_set known.cells address (cell_for value)) address (subst (λ k. k ≤ address) (sym (length-set known.cells address (cell_for value))) past))) tt
          ])
      | inr other ↦ subst (λ (o : Option Cell). CellStands t memory (cell_of o) (slice_index (slice_set s.cells address n) a) (slice_index memory a)) (sym (set_elsewhere known.cells address a (cell_for value) other))
          (subst (λ k. CellStands t memory (cell_at known.cells a) k (slice_index memory a)) (sym (get_or-set_other s.cells address a n 0 other)) (h.cells a))
    ]

    inside_set : (elements : List Element) → AreInside t memory known.cells elements → AreInside t memory (slice_set known.cells address (cell_for value)) elements
    inside_set [] k = tt
    inside_set (c ∷ cs) k = (
      record {
        address = k.0.address;
        holds = k.0.holds;
        alike = k.0.alike;
        array = ap cell_of (set_elsewhere known.cells address k.0.address (cell_for value) (λ e. plain (ap (cell_at known.cells) (sym e) ∙ k.0.array))) ∙ k.0.array;
        behind = k.0.behind;
        within = k.0.within;
      },
      inside_set cs k.1,
    )

    pub was_array : (a : ℕ) → cell_at (slice_set known.cells address (cell_for value)) a ≡ Array → cell_at known.cells a ≡ Array
    was_array a e = elim (cases_eq a address) as (λ _. cell_at known.cells a ≡ Array) [
      | inl here ↦ elim (cases_lt address (length known.cells)) as (λ _. cell_at known.cells a ≡ Array) [
        | inl there ↦ absurd (no_array value (sym (ap cell_of (set_there known.cells address (cell_for value) there)) ∙ ap (cell_at (slice_set known.cells address (cell_for value))) (sym here) ∙ e))
        | inr past ↦ ap (λ (xs : List Cell). cell_at xs a) (sym (set_past known.cells address (cell_for value) past)) ∙ e
      ]
      | inr other ↦ ap cell_of (sym (set_elsewhere known.cells address a (cell_for value) other)) ∙ e
    ]

    pub set_cells : NextCells t memory (slice_set known.cells address (cell_for value)) known.inside known.puts (slice_set s.cells address n)
    set_cells = record {
      room = omega (arith, length-set known.cells address (cell_for value), length-set s.cells address n, h.room);
      cells_are = cells_set;
      are_inside = inside_set known.inside h.inside;
      arrays = (let p = plain_put t memory known.cells known.puts s.cells address n h.arrays plain in record { log = p.log; wrote = p.wrote; are = λ a e. p.are a (was_array a e) });
    }

module _ (facts : List Fact) (known : Known) (word : ℕ) where
  -- the word writes an address that is known
  pub cells_written : (first middle last : Classes) → Grows first middle → Grows middle last → (a v : ExprModel) (at address : ℕ) (value : Option ℕ) (next : List Cell)
      → Evaluates first middle facts known word a at → HasNumber last facts at address
      → ((memory : List ℕ) (s : State) → AreFacts middle memory facts → StandsFor middle memory known s → HoldsOf last memory value (mean v s word))
      → IsWritten known.cells address value next → AreNextCells first last facts known word (write_at a v) next
  cells_written first middle last g h a v at address value next addr number valued w memory s f k =
      let f1 = facts_kept first middle g memory facts f in
      let k1 = known_kept first middle g memory known s k in
      let k2 = known_kept middle last h memory known s k1 in
      let e : address ≡ mean a s word = number_is last memory k2.fits at address (mean a s word) (number memory (facts_kept middle last h memory facts f1)) (holds_kept middle last h memory at (mean a s word) (addr memory s f k).holds) in
      subst (λ (cells : List Cell). NextCells last memory cells known.inside known.puts (slice_set s.cells (mean a s word) (mean v s word))) (sym w.same)
      (subst (λ n. NextCells last memory (slice_set known.cells address (cell_for value)) known.inside known.puts (slice_set s.cells n (mean v s word))) e
      (set_cells last memory known s k2 address (mean v s word) value w.plain (valued memory s f1 k1)))

  -- it doesn't
  pub cells_same : (t : Classes) (move : TransferModel) (next : List Cell) → ((s : State) → cells_moved move s word s.cells ≡ s.cells) → next ≡ known.cells → AreNextCells t t facts known word move next
  cells_same t move next e n memory s f k =
      subst (λ (cells : List Cell). NextCells t memory cells known.inside known.puts (cells_moved move s word s.cells)) (sym n)
      (subst (NextCells t memory known.cells known.inside known.puts) (sym (e s)) (same_cells t memory known s k))

-- a fact of an answer by another
pub if_cells : {E : Type 0} (r : Result (Option (List Cell)) E) (P Q : List Cell → Type 0) → ((c : List Cell) → P c → Q c) → IfOk r (λ found. IfSome found P) → IfOk r (λ found. IfSome found Q)
if_cells (Err e) P Q f h = tt
if_cells (Ok None) P Q f h = tt
if_cells (Ok (Some c)) P Q f h = f c h

-- ---- what is written

pub written_past : (cells next : List Cell) (address : ℕ) (value : Option ℕ) → slice_get cells address ≡ None → next ≡ cells → IsWritten cells address value next
written_past cells next address value e n = record {
  plain = λ f. (let g : Unknown ≡ Array = sym (ap cell_of e) ∙ f in absurd (cc));
  same = n ∙ sym (set_past cells address (cell_for value) (elim (cases_lt address (length cells)) as (λ _. length cells ≤ address) [
    | inl less ↦ absurd (none-some _ (sym e ∙ slice_get-get_or cells address Unknown less))
    | inr past ↦ past
  ]));
}

pub written_plain : (cells next : List Cell) (cell : Cell) (address : ℕ) (value : Option ℕ) → slice_get cells address ≡ Some cell → cell ≢ Array → next ≡ slice_set cells address (cell_for value) → IsWritten cells address value next
written_plain cells next cell address value e h n = record { plain = λ f. h (sym (ap cell_of e) ∙ f); same = n }

-- ---- the register file

no_file : (t : Classes) (memory held : List ℕ) → FileStands t memory [] held
no_file t memory held = record { there = omega arith; are = λ a. tt }

set_entry : (P : Option ℕ → ℕ → Type 0) (known : List (Option ℕ)) (held : List ℕ) (address n a : ℕ) (value : Option ℕ) → length known ≤ length held → P None (slice_index (slice_set held address n) a) → P value n → P (entry known a) (slice_index held a)
    → P (entry (slice_set known address value) a) (slice_index (slice_set held address n) a)
set_entry P [] held address n a value room none set other = none
set_entry P (x ∷ known) [] address n a value room none set other = absurd (omega arith)
set_entry P (x ∷ known) (y ∷ held) zero n zero value room none set other = set
set_entry P (x ∷ known) (y ∷ held) zero n (suc a) value room none set other = other
set_entry P (x ∷ known) (y ∷ held) (suc address) n zero value room none set other = other
set_entry P (x ∷ known) (y ∷ held) (suc address) n (suc a) value room none set other = set_entry P known held address n a value (omega arith) none set other

module _ (facts : List Fact) (known : Known) (word : ℕ) where
  -- nothing is known of it
  pub file_unknown : (old new : Classes) (move : TransferModel) (entries : List (Option ℕ)) → AreUnknown (length known.file) entries → IsNextFile old new facts known word move entries
  file_unknown old new move entries none memory s f k = record {
    there = (let e = none.long in let l = k.file.there in let same = moved_long move s word s.file in omega (arith, e, l, same));
    are = λ a. subst (λ o. HoldsOf new memory o (slice_index (cells_moved move s word s.file) a)) (sym (none.none a)) tt;
  }

  -- it isn't written
  pub file_same : (t : Classes) (move : TransferModel) (next : List (Option ℕ)) → ((s : State) → cells_moved move s word s.file ≡ s.file) → next ≡ known.file → IsNextFile t t facts known word move next
  file_same t move next e n memory s f k = subst (λ (xs : List (Option ℕ)). FileStands t memory xs (cells_moved move s word s.file)) (sym n) (subst (FileStands t memory known.file) (sym (e s)) k.file)

  -- it is, at an address that is known
  pub file_set : (first middle last : Classes) → Grows first middle → Grows middle last → (a v : ExprModel) (at address : ℕ) (value : Option ℕ)
      → Evaluates first middle facts known word a at → HasNumber last facts at address
      → ((memory : List ℕ) (s : State) → AreFacts middle memory facts → StandsFor middle memory known s → HoldsOf last memory value (mean v s word))
      → IsNextFile first last facts known word (write_at a v) (slice_set known.file address value)
  file_set first middle last g h a v at address value addr number valued memory s f k =
      let f1 = facts_kept first middle g memory facts f in
      let k1 = known_kept first middle g memory known s k in
      let k2 = known_kept middle last h memory known s k1 in
      let e : address ≡ mean a s word = number_is last memory k2.fits at address (mean a s word) (number memory (facts_kept middle last h memory facts f1)) (holds_kept middle last h memory at (mean a s word) (addr memory s f k).holds) in
      subst (λ n. FileStands last memory (slice_set known.file address value) (slice_set s.file n (mean v s word))) e (record {
        there = (let l = k2.file.there in omega (arith, l, length-set known.file address value, length-set s.file address (mean v s word)));
        are = λ j. set_entry (HoldsOf last memory) known.file s.file address (mean v s word) j value k2.file.there tt (valued memory s f1 k1) (k2.file.are j);
      })

-- ---- the whole state

module _ (facts : List Fact) (known : Known) (word : ℕ) (pool : List Node) (moves : List Move) (place file : ℕ) where
  pub leads_on : (first middle last : Classes) → Grows first middle → Grows middle last → (regs : List (Option ℕ)) (cells : List Cell) (inside : List Element) (puts : List Put) (filed : List (Option ℕ))
      → AreNextRegs first middle facts known word pool moves regs → AreNextCells middle last facts known word (transfer_of pool (slice_get moves place)) cells → inside ≡ known.inside → puts ≡ known.puts → filed ≡ []
      → LeadsOn first last facts known word pool moves place file (record { regs = regs; cells = cells; inside = inside; puts = puts; file = filed })
  leads_on first middle last g h regs cells inside puts filed are_regs are_cells e q z memory s t f k m =
      let k1 = known_kept first middle g memory known s k in
      let c = are_cells memory s (facts_kept first middle g memory facts f) k1 in
      record {
        fits = (known_kept middle last h memory known s k1).fits;
        room = subst (λ (xs : List ℕ). length cells ≤ length xs) (sym m.cells) c.room;
        regs = λ id. subst (HoldsOf last memory (entry regs id)) (sym (m.regs id)) (of_kept middle last h memory (entry regs id) (reg_moved (transfer_of pool (slice_get moves id)) s word id) (are_regs id memory s f k));
        cells = λ a. subst (λ (xs : List ℕ). CellStands last memory (cell_at cells a) (slice_index xs a) (slice_index memory a)) (sym m.cells) (c.cells_are a);
        inside = subst (AreInside last memory cells) (sym e) c.are_inside;
        arrays = subst (λ (ps : List Put). ArraysStand last memory cells ps t.cells) (sym q) (subst (λ (xs : List ℕ). ArraysStand last memory cells known.puts xs) (sym m.cells) c.arrays);
        file = subst (λ (xs : List (Option ℕ)). FileStands last memory xs t.file) (sym z) (no_file last memory t.file);
      }

  -- where an element is written
  pub leads_put : (first middle last : Classes) → Grows first middle → Grows middle last → (regs : List (Option ℕ)) (cells : List Cell) (inside : List Element) (puts : List Put) (filed : List (Option ℕ))
      → IsNextPut first middle facts known word (transfer_of pool (slice_get moves place)) puts → AreNextRegs middle last facts known word pool moves regs → cells ≡ known.cells → inside ≡ known.inside → filed ≡ []
      → LeadsOn first last facts known word pool moves place file (record { regs = regs; cells = cells; inside = inside; puts = puts; file = filed })
  leads_put first middle last g h regs cells inside puts filed is_put are_regs e q z memory s t f k m =
      let k1 = known_kept first middle g memory known s k in
      let c = is_put memory s f k in
      let whole = (known_kept middle last h memory known s k1) in
      record {
        fits = whole.fits;
        room = subst (λ (xs : List ℕ). length cells ≤ length xs) (sym m.cells) (subst (λ (xs : List Cell). length xs ≤ length (cells_moved (transfer_of pool (slice_get moves place)) s word s.cells)) (sym e) c.room);
        regs = λ id. subst (HoldsOf last memory (entry regs id)) (sym (m.regs id)) (are_regs id memory s (facts_kept first middle g memory facts f) k1);
        cells = λ a. subst (λ (xs : List ℕ). CellStands last memory (cell_at cells a) (slice_index xs a) (slice_index memory a)) (sym m.cells)
            (subst (λ (xs : List Cell). CellStands last memory (cell_at xs a) (slice_index (cells_moved (transfer_of pool (slice_get moves place)) s word s.cells) a) (slice_index memory a)) (sym e)
            (cell_kept middle last h memory (cell_at known.cells a) (slice_index (cells_moved (transfer_of pool (slice_get moves place)) s word s.cells) a) (slice_index memory a) (c.cells_are a)));
        inside = subst (AreInside last memory cells) (sym q) (subst (λ (xs : List Cell). AreInside last memory xs known.inside) (sym e) (inside_kept middle last h memory known.cells known.inside c.are_inside));
        arrays = subst (λ (xs : List ℕ). ArraysStand last memory cells puts xs) (sym m.cells)
            (subst (λ (xs : List Cell). ArraysStand last memory xs puts (cells_moved (transfer_of pool (slice_get moves place)) s word s.cells)) (sym e)
            (arrays_kept middle last h memory known.cells puts (cells_moved (transfer_of pool (slice_get moves place)) s word s.cells) c.arrays));
        file = subst (λ (xs : List (Option ℕ)). FileStands last memory xs t.file) (sym z) (no_file last memory t.file);
      }

  -- with the register file
  pub leads_filed : (first middle last : Classes) → Grows first middle → Grows middle last → (cells : List (Option ℕ)) (next : Known)
      → IsNextFile first middle facts known word (transfer_of pool (slice_get moves file)) cells → LeadsOn middle last facts known word pool moves place file next
      → LeadsOn first last facts known word pool moves place file (record { regs = next.regs; cells = next.cells; inside = next.inside; puts = next.puts; file = cells })
  leads_filed first middle last g h cells next is leads memory s t f k m =
      let n = leads memory s t (facts_kept first middle g memory facts f) (known_kept first middle g memory known s k) m in
      record {
        fits = n.fits;
        room = n.room;
        regs = n.regs;
        cells = n.cells;
        inside = n.inside;
        arrays = n.arrays;
        file = subst (FileStands last memory cells) (sym m.file_is) (file_kept middle last h memory cells (cells_moved (transfer_of pool (slice_get moves file)) s word s.file) (is memory s f k));
      }

  pub leads_later : (first middle last : Classes) → Grows first middle → (next : Known) → LeadsOn middle last facts known word pool moves place file next → LeadsOn first last facts known word pool moves place file next
  leads_later first middle last g next h memory s t f k m = h memory s t (facts_kept first middle g memory facts f) (known_kept first middle g memory known s k) m

-- ---- addresses of arrays

module _ (t : Classes) (facts : List Fact) (known : Known) (class : ℕ) where
  pub listed_array : SomeAlias t known.inside class → IsOfArray t facts known class
  listed_array alias memory s a f k h =
      let i = find_inside t memory known.cells known.inside class alias.0 alias.1 k.inside in
      ap (cell_at known.cells) (sym (number_is t memory k.fits class i.address a i.holds h)) ∙ i.array

  pub numbered_array : (address : ℕ) → HasNumber t facts class address → cell_at known.cells address ≡ Array → IsOfArray t facts known class
  numbered_array address number array memory s a f k h = ap (cell_at known.cells) (sym (number_is t memory k.fits class address a (number memory f) h)) ∙ array

module _ (facts : List Fact) (known : Known) (word : ℕ) where
  -- a write to an element
  pub element_written : (first middle last : Classes) → Grows first middle → Grows middle last → (a v : ExprModel) (at value : ℕ) (puts : List Put) → Evaluates first middle facts known word a at → Evaluates middle last facts known word v value
      → IsOneMore last facts known at value puts → IsNextPut first last facts known word (write_at a v) puts
  element_written first middle last g h a v at value puts addr valued w memory s f k =
      let f1 = facts_kept first middle g memory facts f in
      let k1 = known_kept first middle g memory known s k in
      let k2 = known_kept middle last h memory known s k1 in
      let own = holds_kept middle last h memory at (mean a s word) (addr memory s f k).holds in
      let array : cell_at known.cells (mean a s word) ≡ Array = w.array memory s (mean a s word) (facts_kept middle last h memory facts f1) k2 own in
      let less : mean a s word < length known.cells = array_below known.cells (mean a s word) array in
      let room = k2.room in
      record {
        room = omega (arith, room, length-set s.cells (mean a s word) (mean v s word));
        cells_are = λ j. elim (cases_eq j (mean a s word)) as (λ _. CellStands last memory (cell_at known.cells j) (slice_index (slice_set s.cells (mean a s word) (mean v s word)) j) (slice_index memory j)) [
          | inl here ↦ subst (λ (x : Cell). CellStands last memory x (slice_index (slice_set s.cells (mean a s word) (mean v s word)) j) (slice_index memory j)) (sym (ap (cell_at known.cells) here ∙ array)) tt
          | inr other ↦ subst (λ n. CellStands last memory (cell_at known.cells j) n (slice_index memory j)) (sym (get_or-set_other s.cells (mean a s word) j (mean v s word) 0 other)) (k2.cells j)
        ];
        are_inside = k2.inside;
        arrays = subst (λ (ps : List Put). ArraysStand last memory known.cells ps (slice_set s.cells (mean a s word) (mean v s word))) (sym w.more)
            (element_put last memory known.cells known.puts s.cells (record { address = at; value = value }) (mean a s word) (mean v s word) k2.arrays own (valued memory s f1 k1).holds (omega (arith, less, room)));
      }

pub if_puts : {E : Type 0} (r : Result (Option (List Put)) E) (P Q : List Put → Type 0) → ((c : List Put) → P c → Q c) → IfOk r (λ found. IfSome found P) → IfOk r (λ found. IfSome found Q)
if_puts (Err e) P Q f h = tt
if_puts (Ok None) P Q f h = tt
if_puts (Ok (Some c)) P Q f h = f c h

pub if_ok : {A : Type 0} {E : Type 0} (r : Result A E) (P Q : A → Type 0) → ((x : A) → P x → Q x) → IfOk r P → IfOk r Q
if_ok (Err e) P Q f h = tt
if_ok (Ok x) P Q f h = f x h
