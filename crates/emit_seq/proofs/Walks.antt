-- The steps that put the cuts of a form's leaves into their cells, from left to right.
use Rattle.std.proofs.Common.{◌≡◌, ℕ, ◌+◌, ◌<◌, ◌≤◌, ◌⊎◌, inl, inr, List, [], ◌∷◌, ◌++◌, Option, length, drop, slice_index, refl, sym, ap, ◌∙◌, subst, arith}
use Rattle.std.specs.List.{AllZip}
use Rattle.net_model.specs.declared.states.State.{State}
use Rattle.net_model.specs.Meaning.{mean}
use Rattle.form_model.specs.declared.forms.Step.{Step}
use Rattle.form_model.specs.Matches.{LeafModel, operand, cut}
use Rattle.form_model.specs.Covers.{Operand, operands_of, cuts_of}
use Rattle.form_model.specs.Effects.{Operation, apply_operation, steps_effect}
use Rattle.form_model.specs.Steps.{OperandCellsModel, CutCellsModel, operand_cells, cut_cells, woven}
use Rattle.emit_seq.specs.Inner.CellLists.{operands_in, trees_in}
use Rattle.emit_seq.specs.Leaves.{ReadsFrom}
use Rattle.emit_seq.proofs.Matched.{AtHome, Holds}
use Rattle.emit_seq.proofs.MatchLeaves.{LeavesRead}
use Rattle.form_model.proofs.Zips.{Each, total}

pub effect-steps : {A : Type 0} (m : A → Operation) (xs ys : List A) (s : State) → steps_effect m (xs ++ ys) s ≡ steps_effect m ys (steps_effect m xs s)
effect-steps m [] ys s = refl
effect-steps m (x ∷ xs) ys s = effect-steps m xs ys (apply_operation (m x) s s)

-- ---- the operands and cuts of leaves, with their cells

pub cells_operands : (leaves : List LeafModel) (ks ls : List ℕ) (n : ℕ) → operands_in (operand_cells leaves ks ls n) ≡ operands_of leaves
cells_operands [] ks ls n = refl
cells_operands (operand id tree whole ∷ leaves) ks ls n = ap (λ (z : List Operand). record { home = id; tree = tree; whole = whole } ∷ z) (cells_operands leaves (drop 1 ks) ls (n + slice_index ks 0))
cells_operands (cut shape tree ∷ leaves) ks ls n = cells_operands leaves ks (drop 1 ls) (n + slice_index ls 0 + 1)

pub cells_trees : (leaves : List LeafModel) (ks ls : List ℕ) (n : ℕ) → trees_in (cut_cells leaves ks ls n) ≡ cuts_of leaves
cells_trees [] ks ls n = refl
cells_trees (operand id tree whole ∷ leaves) ks ls n = cells_trees leaves (drop 1 ks) ls (n + slice_index ks 0)
cells_trees (cut shape tree ∷ leaves) ks ls n = ap (λ z. tree ∷ z) (cells_trees leaves ks (drop 1 ls) (n + slice_index ls 0 + 1))

-- the cell past those of all leaves
abbrev pub past_leaves : List LeafModel → List ℕ → List ℕ → ℕ → ℕ
past_leaves [] ks ls n = n
past_leaves (operand id tree whole ∷ leaves) ks ls n = past_leaves leaves (drop 1 ks) ls (n + slice_index ks 0)
past_leaves (cut shape tree ∷ leaves) ks ls n = past_leaves leaves ks (drop 1 ls) (n + slice_index ls 0 + 1)

pub past_more : (leaves : List LeafModel) (ks ls : List ℕ) (n : ℕ) → n ≤ past_leaves leaves ks ls n
past_more [] ks ls n = omega arith
past_more (operand id tree whole ∷ leaves) ks ls n = let h = past_more leaves (drop 1 ks) ls (n + slice_index ks 0) in omega (arith, h)
past_more (cut shape tree ∷ leaves) ks ls n = let h = past_more leaves ks (drop 1 ls) (n + slice_index ls 0 + 1) in omega (arith, h)

pub past_total : (leaves : List LeafModel) (ks ls : List ℕ) (n : ℕ) → length ks ≡ length (operands_of leaves) → length ls ≡ length (cuts_of leaves)
    → past_leaves leaves ks ls n ≡ n + total ks + (total ls + length ls)
past_total [] [] [] n p q = omega arith
past_total [] [] (l ∷ ls) n p q = absurd (omega arith)
past_total [] (k ∷ ks) ls n p q = absurd (omega arith)
past_total (operand id tree whole ∷ leaves) [] ls n p q = absurd (omega arith)
past_total (operand id tree whole ∷ leaves) (k ∷ ks) ls n p q = let h = past_total leaves ks ls (n + k) (omega arith) q in omega (arith, h)
past_total (cut shape tree ∷ leaves) ks [] n p q = absurd (omega arith)
past_total (cut shape tree ∷ leaves) ks (l ∷ ls) n p q = let h = past_total leaves ks ls (n + l + 1) p (omega arith) in omega (arith, h)

abbrev pub OperandCount : OperandCellsModel → ℕ → Type 0
OperandCount cells k = cells.past ≡ cells.first + k

abbrev pub CutCount : CutCellsModel → ℕ → Type 0
CutCount cells l = cells.cell ≡ cells.first + l

pub operands_counted : (leaves : List LeafModel) (ks ls : List ℕ) (n : ℕ) → length ks ≡ length (operands_of leaves) → AllZip OperandCount (operand_cells leaves ks ls n) ks
operands_counted [] [] ls n p = tt
operands_counted [] (k ∷ ks) ls n p = absurd (omega arith)
operands_counted (operand id tree whole ∷ leaves) [] ls n p = absurd (omega arith)
operands_counted (operand id tree whole ∷ leaves) (k ∷ ks) ls n p = (refl, operands_counted leaves ks ls (n + k) (omega arith))
operands_counted (cut shape tree ∷ leaves) ks ls n p = operands_counted leaves ks (drop 1 ls) (n + slice_index ls 0 + 1) p

pub cuts_counted : (leaves : List LeafModel) (ks ls : List ℕ) (n : ℕ) → length ls ≡ length (cuts_of leaves) → AllZip CutCount (cut_cells leaves ks ls n) ls
cuts_counted [] ks [] n p = tt
cuts_counted [] ks (l ∷ ls) n p = absurd (omega arith)
cuts_counted (operand id tree whole ∷ leaves) ks ls n p = cuts_counted leaves (drop 1 ks) ls (n + slice_index ks 0) p
cuts_counted (cut shape tree ∷ leaves) ks [] n p = absurd (omega arith)
cuts_counted (cut shape tree ∷ leaves) ks (l ∷ ls) n p = (refl, cuts_counted leaves ks ls (n + l + 1) (omega arith))

pub operands_below : (leaves : List LeafModel) (ks ls : List ℕ) (n low : ℕ) → past_leaves leaves ks ls n ≤ low → Each (λ (cells : OperandCellsModel). cells.past ≤ low) (operand_cells leaves ks ls n)
operands_below [] ks ls n low p = tt
operands_below (operand id tree whole ∷ leaves) ks ls n low p =
    let h = past_more leaves (drop 1 ks) ls (n + slice_index ks 0) in (omega (arith, h, p), operands_below leaves (drop 1 ks) ls (n + slice_index ks 0) low p)
operands_below (cut shape tree ∷ leaves) ks ls n low p = operands_below leaves ks (drop 1 ls) (n + slice_index ls 0 + 1) low p

pub cuts_below : (leaves : List LeafModel) (ks ls : List ℕ) (n low : ℕ) → past_leaves leaves ks ls n ≤ low → Each (λ (cells : CutCellsModel). cells.cell < low) (cut_cells leaves ks ls n)
cuts_below [] ks ls n low p = tt
cuts_below (operand id tree whole ∷ leaves) ks ls n low p = cuts_below leaves (drop 1 ks) ls (n + slice_index ks 0) low p
cuts_below (cut shape tree ∷ leaves) ks ls n low p =
    let h = past_more leaves ks (drop 1 ls) (n + slice_index ls 0 + 1) in (omega (arith, h, p), cuts_below leaves ks (drop 1 ls) (n + slice_index ls 0 + 1) low p)

pub operands_read : (temps : ℕ) (before : State) (leaves : List LeafModel) (ks ls : List ℕ) (n : ℕ) → LeavesRead temps before leaves → Each (λ (cells : OperandCellsModel). ReadsFrom temps before cells.operand.tree) (operand_cells leaves ks ls n)
operands_read temps before [] ks ls n h = tt
operands_read temps before (operand id tree whole ∷ leaves) ks ls n h = (h.0, operands_read temps before leaves (drop 1 ks) ls (n + slice_index ks 0) h.1)
operands_read temps before (cut shape tree ∷ leaves) ks ls n h = operands_read temps before leaves ks (drop 1 ls) (n + slice_index ls 0 + 1) h.1

pub cuts_read : (temps : ℕ) (before : State) (leaves : List LeafModel) (ks ls : List ℕ) (n : ℕ) → LeavesRead temps before leaves → Each (λ (cells : CutCellsModel). ReadsFrom temps before cells.tree) (cut_cells leaves ks ls n)
cuts_read temps before [] ks ls n h = tt
cuts_read temps before (operand id tree whole ∷ leaves) ks ls n h = cuts_read temps before leaves (drop 1 ks) ls (n + slice_index ks 0) h.1
cuts_read temps before (cut shape tree ∷ leaves) ks ls n h = (h.0, cuts_read temps before leaves ks (drop 1 ls) (n + slice_index ls 0 + 1) h.1)

-- operands in their homes and cuts in their cells
pub holds_of : (temps size : ℕ) (before now : State) (leaves : List LeafModel) (ks ls : List ℕ) (n : ℕ) (homes : List (Option ℕ))
    → AllZip (λ (cells : OperandCellsModel) (h : Option ℕ). AtHome temps size before now cells.operand.home h cells.operand.tree) (operand_cells leaves ks ls n) homes
    → Each (λ (cells : CutCellsModel). (cells.cell < temps) × (slice_index now.cells cells.cell ≡ mean cells.tree before 0)) (cut_cells leaves ks ls n)
    → Holds temps size before now leaves (cut_cells leaves ks ls n) homes
holds_of temps size before now [] ks ls n [] h k = (refl, refl)
holds_of temps size before now [] ks ls n (c ∷ homes) h k = absurd h
holds_of temps size before now (operand home tree whole ∷ leaves) ks ls n [] h k = absurd h
holds_of temps size before now (operand home tree whole ∷ leaves) ks ls n (c ∷ homes) h k = (h.0, holds_of temps size before now leaves (drop 1 ks) ls (n + slice_index ks 0) homes h.1 k)
holds_of temps size before now (cut shape tree ∷ leaves) ks ls n homes h k = (refl, k.0.0, k.0.1, holds_of temps size before now leaves ks (drop 1 ls) (n + slice_index ls 0 + 1) homes h k.1)

-- ---- the walk

-- nothing but the cells from the first to the one past the last is changed, apart from registers and
-- the file
pub record IsLocal (first past : ℕ) (s t : State) : Type 0 where
  pub regs : length t.regs ≡ length s.regs
  pub cells : length t.cells ≡ length s.cells
  pub file : length t.file ≡ length s.file
  pub same : (c : ℕ) → (c < first) ⊎ (past ≤ c) → slice_index t.cells c ≡ slice_index s.cells c

pub local_refl : (a b : ℕ) (s : State) → IsLocal a b s s
local_refl a b s = record { regs = refl; cells = refl; file = refl; same = λ c h. refl }

pub local_trans : (a b c d : ℕ) (s t u : State) → a ≤ b → b ≤ c → c ≤ d → IsLocal a b s t → IsLocal b d t u → IsLocal a d s u
local_trans a b c d s t u p q r x y = record {
  regs = y.regs ∙ x.regs;
  cells = y.cells ∙ x.cells;
  file = y.file ∙ x.file;
  same = λ e h. y.same e (higher e h) ∙ x.same e (lower e h);
}
  where
    lower : (e : ℕ) → (e < a) ⊎ (d ≤ e) → (e < a) ⊎ (b ≤ e)
    lower e (inl h) = inl h
    lower e (inr h) = inr (omega arith)

    higher : (e : ℕ) → (e < a) ⊎ (d ≤ e) → (e < b) ⊎ (d ≤ e)
    higher e (inl h) = inl (omega arith)
    higher e (inr h) = inr h

module _ (temps : ℕ) (before : State) where
  -- a state that has the cells of the variables as they were
  pub record IsKept (s : State) : Type 0 where
    pub regs : length s.regs ≡ length before.regs
    pub cells : length s.cells ≡ length before.cells
    pub file : length s.file ≡ length before.file
    pub same : (c : ℕ) → temps ≤ c → slice_index s.cells c ≡ slice_index before.cells c

  pub kept_local : (a b : ℕ) (s t : State) → b ≤ temps → IsKept s → IsLocal a b s t → IsKept t
  kept_local a b s t h k l = record {
    regs = l.regs ∙ k.regs;
    cells = l.cells ∙ k.cells;
    file = l.file ∙ k.file;
    same = λ c m. l.same c (inr (omega arith)) ∙ k.same c m;
  }

module _ {A : Type 0} (m : A → Operation) (temps : ℕ) (before : State) where
  -- the steps for the cuts inside an operand
  abbrev pub Fills : OperandCellsModel → List A → Type 0
  Fills cells xs = (s : State) → IsKept temps before s → IsLocal cells.first cells.past s (steps_effect m xs s)

  -- those for a cut, after which its cell has its value
  abbrev pub Stores : CutCellsModel → List A → Type 0
  Stores cells xs = (s : State) → IsKept temps before s
      → IsLocal cells.first (cells.cell + 1) s (steps_effect m xs s) × (slice_index (steps_effect m xs s).cells cells.cell ≡ mean cells.tree before 0)

  -- the cells of an operand's cuts are as its steps leave them
  pub record IsFilled (now : State) (cells : OperandCellsModel) (xs : List A) : Type 0 where
    pub from : State
    pub kept : IsKept temps before from
    pub same : (c : ℕ) → cells.first ≤ c → c < cells.past → slice_index now.cells c ≡ slice_index (steps_effect m xs from).cells c

-- after the walk from s, where `now` has the cells that it leaves
pub record IsWalked (temps : ℕ) (before : State) (m : Step → Operation) (leaves : List LeafModel) (ks ls : List ℕ) (n : ℕ) (xs ys : List (List Step)) (s now : State) : Type 0 where
  pub local : IsLocal n (past_leaves leaves ks ls n) s (steps_effect m (woven leaves xs ys) s)
  pub filled : AllZip (IsFilled m temps before now) (operand_cells leaves ks ls n) xs
  pub stored : Each (λ (cells : CutCellsModel). slice_index now.cells cells.cell ≡ mean cells.tree before 0) (cut_cells leaves ks ls n)

pub walk : (temps : ℕ) (before : State) (m : Step → Operation) (leaves : List LeafModel) (ks ls : List ℕ) (n : ℕ) (xs ys : List (List Step)) → past_leaves leaves ks ls n ≤ temps
    → AllZip (Fills m temps before) (operand_cells leaves ks ls n) xs → AllZip (Stores m temps before) (cut_cells leaves ks ls n) ys
    → (s now : State) → IsKept temps before s
    → ((c : ℕ) → n ≤ c → c < past_leaves leaves ks ls n → slice_index now.cells c ≡ slice_index (steps_effect m (woven leaves xs ys) s).cells c)
    → IsWalked temps before m leaves ks ls n xs ys s now
walk temps before m [] ks ls n [] ys p f g s now k a = record { local = local_refl n n s; filled = tt; stored = tt }
walk temps before m [] ks ls n (x ∷ xs) ys p f g s now k a = absurd f
walk temps before m (operand id tree whole ∷ leaves) ks ls n [] ys p f g s now k a = absurd f
walk temps before m (operand id tree whole ∷ leaves) ks ls n (x ∷ xs) ys p f g s now k a =
    let mid : ℕ = n + slice_index ks 0 in
    let high : mid ≤ past_leaves leaves (drop 1 ks) ls mid = past_more leaves (drop 1 ks) ls mid in
    let t : State = steps_effect m x s in
    let l : IsLocal n mid s t = f.0 s k in
    let kt : IsKept temps before t = kept_local temps before n mid s t (omega (arith, high, p)) k l in
    let e : steps_effect m (x ++ woven leaves xs ys) s ≡ steps_effect m (woven leaves xs ys) t = effect-steps m x (woven leaves xs ys) s in
    let w : IsWalked temps before m leaves (drop 1 ks) ls mid xs ys t now =
    walk temps before m leaves (drop 1 ks) ls mid xs ys p f.1 g t now kt (λ c lo hi. a c (omega (arith, lo)) hi ∙ ap (λ (z : State). slice_index z.cells c) e) in
    record {
      local = subst (λ z. IsLocal n (past_leaves leaves (drop 1 ks) ls mid) s z) (sym e)
          (local_trans n mid mid (past_leaves leaves (drop 1 ks) ls mid) s t (steps_effect m (woven leaves xs ys) t) (omega arith) (omega arith) high l w.local);
      filled = (record { from = s; kept = k; same = λ c lo hi. a c lo (omega (arith, hi, high)) ∙ ap (λ (z : State). slice_index z.cells c) e ∙ w.local.same c (inl hi) }, w.filled);
      stored = w.stored;
    }
walk temps before m (cut shape tree ∷ leaves) ks ls n xs [] p f g s now k a = absurd g
walk temps before m (cut shape tree ∷ leaves) ks ls n xs (y ∷ ys) p f g s now k a =
    let mid : ℕ = n + slice_index ls 0 + 1 in
    let high : mid ≤ past_leaves leaves ks (drop 1 ls) mid = past_more leaves ks (drop 1 ls) mid in
    let t : State = steps_effect m y s in
    let both : IsLocal n mid s t × (slice_index t.cells (n + slice_index ls 0) ≡ mean tree before 0) = g.0 s k in
    let kt : IsKept temps before t = kept_local temps before n mid s t (omega (arith, high, p)) k both.0 in
    let e : steps_effect m (y ++ woven leaves xs ys) s ≡ steps_effect m (woven leaves xs ys) t = effect-steps m y (woven leaves xs ys) s in
    let w : IsWalked temps before m leaves ks (drop 1 ls) mid xs ys t now =
    walk temps before m leaves ks (drop 1 ls) mid xs ys p f g.1 t now kt (λ c lo hi. a c (omega (arith, lo)) hi ∙ ap (λ (z : State). slice_index z.cells c) e) in
    record {
      local = subst (λ z. IsLocal n (past_leaves leaves ks (drop 1 ls) mid) s z) (sym e)
          (local_trans n mid mid (past_leaves leaves ks (drop 1 ls) mid) s t (steps_effect m (woven leaves xs ys) t) (omega arith) (omega arith) high both.0 w.local);
      filled = w.filled;
      stored = (
        a (n + slice_index ls 0) (omega arith) (omega (arith, high)) ∙ ap (λ (z : State). slice_index z.cells (n + slice_index ls 0)) e
            ∙ w.local.same (n + slice_index ls 0) (inl (omega arith)) ∙ both.1,
        w.stored,
      );
    }
