-- Changes of one cell after the other, and of one variable's cells after the other's.
use Rattle.std.proofs.Common.{◌≡◌, ℕ, suc, ◌+◌, ◌<◌, ◌≤◌, List, [], ◌∷◌, ◌++◌, length, take, drop, get_or, sym, ap, ◌∙◌, drop-cons, add-one, arith}
use Rattle.std.proofs.lemmas.List.{drop-drop, drop-take, get_or-drop, get_or-take, length-take-le, take-take}
use Rattle.rec_bits.proofs.Lists.{part_length}
use Rattle.src_model.specs.declared.program.Var.{Var as Declared}
use Rattle.src_model.specs.Meaning.{cells_in, cell_count}
use Rattle.checkpoint_watch.specs.Texts.{change, changes, changes_from, store_from}

-- ---- a variable's cells

next_change : (var : Declared) (i : ℕ) (olds news : List ℕ) → i < length olds → i < length news
    → changes_from var i (drop i olds) (drop i news) ≡ change var i (get_or olds i 0) (get_or news i 0) ++ changes_from var (i + 1) (drop (i + 1) olds) (drop (i + 1) news)
next_change var i olds news p q =
    ap (λ (xs : List ℕ). changes_from var i xs (drop i news)) (drop-cons olds i 0 p)
    ∙ ap (λ (xs : List ℕ). changes_from var i (get_or olds i 0 ∷ drop (suc i) olds) xs) (drop-cons news i 0 q)
    ∙ ap (λ (n : ℕ). change var i (get_or olds i 0) (get_or news i 0) ++ changes_from var (i + 1) (drop n olds) (drop n news)) (sym (add-one i))

-- the cells of a store stand in the memory
in_memory : (n address i : ℕ) (cells : List ℕ) → i < n → get_or (take n (drop address cells)) i 0 ≡ get_or cells (address + i) 0
in_memory n address i cells lt = get_or-take n (drop address cells) i 0 lt ∙ get_or-drop address cells i 0

pub next_in_memory : (var : Declared) (i address value : ℕ) (olds cells : List ℕ) → i < length olds → address + length olds ≤ length cells → value ≡ get_or cells (address + i) 0
    → changes_from var i (drop i olds) (drop i (take (length olds) (drop address cells)))
    ≡ change var i (get_or olds i 0) value ++ changes_from var (i + 1) (drop (i + 1) olds) (drop (i + 1) (take (length olds) (drop address cells)))
next_in_memory var i address value olds cells lt within e =
    let news : List ℕ = take (length olds) (drop address cells) in
    next_change var i olds news lt (omega (arith, part_length (length olds) address cells within))
    ∙ ap (λ (v : ℕ). change var i (get_or olds i 0) v ++ changes_from var (i + 1) (drop (i + 1) olds) (drop (i + 1) news)) (in_memory (length olds) address i cells lt ∙ sym e)

-- ---- one variable after the other

pub first_changes : (var : Declared) (vars : List Declared) (at : ℕ) (olds cells : List ℕ) →
    changes (var ∷ vars) olds (store_from (var ∷ vars) at cells)
    ≡ changes_from var 0 (take (cells_in var) olds) (take (cells_in var) (drop at cells)) ++ changes vars (drop (cells_in var) olds) (store_from vars (at + cells_in var) cells)
first_changes var vars at olds cells =
    let n : ℕ = cells_in var in
    ap (λ (xs : List ℕ). changes_from var 0 (take n olds) xs ++ changes vars (drop n olds) (drop n (store_from (var ∷ vars) at cells))) (take-take n (n + cell_count vars) (drop at cells) (omega arith))
    ∙ ap (λ (xs : List ℕ). changes_from var 0 (take n olds) (take n (drop at cells)) ++ changes vars (drop n olds) xs)
    (drop-take n (cell_count vars) (drop at cells) ∙ ap (take (cell_count vars)) (drop-drop n at cells))

pub next_changes : (vars : List Declared) (i at : ℕ) (var : Declared) (olds own rest cells : List ℕ) → i < length vars → var ≡ get_or vars i var → cell_count (drop i vars) ≡ length olds
    → own ≡ take (cells_in var) olds → rest ≡ drop (cells_in var) olds →
    changes (drop i vars) olds (store_from (drop i vars) at cells)
    ≡ changes_from var 0 own (take (length own) (drop at cells)) ++ changes (drop (i + 1) vars) rest (store_from (drop (i + 1) vars) (at + length own) cells)
next_changes vars i at var olds own rest cells lt e whole f g =
    let n : ℕ = cells_in var in
    let more : List Declared = drop (i + 1) vars in
    let one : drop i vars ≡ var ∷ more = drop-cons vars i var lt ∙ ap (λ (v : Declared). v ∷ drop (suc i) vars) (sym e) ∙ ap (λ (k : ℕ). var ∷ drop k vars) (sym (add-one i)) in
    let count : n + cell_count more ≡ length olds = sym (ap cell_count one) ∙ whole in
    let long : length own ≡ n = ap length f ∙ length-take-le n olds (omega arith) in
    ap (λ (vs : List Declared). changes vs olds (store_from vs at cells)) one ∙ first_changes var more at olds cells
    ∙ ap (λ (xs : List ℕ). changes_from var 0 xs (take n (drop at cells)) ++ changes more (drop n olds) (store_from more (at + n) cells)) (sym f)
    ∙ ap (λ (xs : List ℕ). changes_from var 0 own (take n (drop at cells)) ++ changes more xs (store_from more (at + n) cells)) (sym g)
    ∙ ap (λ (k : ℕ). changes_from var 0 own (take k (drop at cells)) ++ changes more rest (store_from more (at + k) cells)) (sym long)

pub more_cells : (vars : List Declared) (i : ℕ) (var : Declared) → i < length vars → var ≡ get_or vars i var → cell_count (drop i vars) ≡ cells_in var + cell_count (drop (i + 1) vars)
more_cells vars i var lt e =
    ap cell_count (drop-cons vars i var lt ∙ ap (λ (v : Declared). v ∷ drop (suc i) vars) (sym e) ∙ ap (λ (k : ℕ). var ∷ drop k vars) (sym (add-one i)))
