-- The cells of the file that covers leave their values in: they are free where the file is large
-- enough for the cover's need.
use Rattle.std.proofs.Common.{◌≡◌, ℕ, zero, suc, ◌+◌, ◌-◌, ◌<◌, ◌≤◌, ◌==◌, ◌^◌, ◌⊎◌, inl, inr, bit_or, Bool, true, false, if◌then◌else◌, List, [], ◌∷◌, Option, Some, None, refl, sym, ap, ◌∙◌, subst, arith}
use Rattle.std.specs.Prelude.{slice_get, insert}
use Rattle.std.specs.Int.{bit_at}
use Rattle.std.proofs.lemmas.Bool.{cases_eq, eqb-true, eq-eqb, ne_eqb}
use Rattle.std.proofs.lemmas.Nat.Bits.{bit_at-zero, bit_at_or, bit_at-lt}
use Rattle.rec_bits.proofs.Bits.{set_same, set_other}
use Rattle.form_model.specs.Forms.{FormModel, GoalModel, into_reg, into_memory, into_file, jumps, branches}
use Rattle.form_model.specs.CoverModels.{CoverModel, use_form, CoverOperandsModel, no_operands, operand_then}
use Rattle.form_model.specs.Covers.{StockModel, cells_of_goal, form_cells, left_cells, need, operands_need}
use Rattle.form_model.specs.Steps.{free_cell, holding, some_or, cell_in, tied_cell, cell_or, form_cell, cell_of, operand_homes, first_home}

-- how many numbers below n aren't in the set
abbrev pub free_count : ℕ → ℕ → ℕ
free_count held zero = 0
free_count held (suc n) = free_count held n + (1 - bit_at held n)

pub all_free : (n : ℕ) → free_count 0 n ≡ n
all_free zero = refl
all_free (suc n) = let h = all_free n in omega (arith, h, bit_at-zero n)

step_of : (b : Bool) (m n : ℕ) → (b ≡ true) → (if b then m else n) ≡ m
step_of true m n e = refl
step_of false m n e = absurd (cc)

step_past : (b : Bool) (m n : ℕ) → (b ≡ false) → (if b then m else n) ≡ n
step_past true m n e = absurd (cc)
step_past false m n e = refl

none_free : (held n : ℕ) → free_count held n ≡ 0 → free_cell held n ≡ n
none_free held zero h = refl
none_free held (suc n) h =
    let e : free_cell held n ≡ n = none_free held n (omega (arith, h)) in
    let one : bit_at held (free_cell held n) ≡ 1 = ap (bit_at held) e ∙ (let l = bit_at-lt held n in omega (arith, h, l)) in
    step_past (bit_at held (free_cell held n) == 0) (free_cell held n) (suc n) (ne_eqb _ 0 (λ z. omega (arith, z, one)))

-- where one is free, the least is
pub least_free : (held n : ℕ) → 1 ≤ free_count held n → (free_cell held n < n) × (bit_at held (free_cell held n) ≡ 0)
least_free held zero h = absurd (omega (arith, h))
least_free held (suc n) h =
    elim (cases_eq (free_count held n) 0) as (λ _. (free_cell held (suc n) < suc n) × (bit_at held (free_cell held (suc n)) ≡ 0)) [
      | inl none ↦
          let e : free_cell held n ≡ n = none_free held n none in
          let z : bit_at held (free_cell held n) ≡ 0 = ap (bit_at held) e ∙ (let l = bit_at-lt held n in omega (arith, h, none, l)) in
          let s : free_cell held (suc n) ≡ free_cell held n = step_of (bit_at held (free_cell held n) == 0) (free_cell held n) (suc n) (eq-eqb _ 0 z) in
          (omega (arith, s, e), ap (bit_at held) s ∙ z)
      | inr some ↦
          let (lt, z) = least_free held n (omega (arith, some)) in
          let s : free_cell held (suc n) ≡ free_cell held n = step_of (bit_at held (free_cell held n) == 0) (free_cell held n) (suc n) (eq-eqb _ 0 z) in
          (omega (arith, s, lt), ap (bit_at held) s ∙ z)
    ]

-- one cell more is held
pub held_more : (held c i : ℕ) → bit_at held i ≡ 1 → bit_at (bit_or held (2 ^ c)) i ≡ 1
held_more held c i h = let l = bit_at-lt (2 ^ c) i in omega (arith, bit_at_or held (2 ^ c) i, h, l)

pub held_less : (held c i : ℕ) → bit_at (bit_or held (2 ^ c)) i ≡ 0 → bit_at held i ≡ 0
held_less held c i h = omega (arith, bit_at_or held (2 ^ c) i, h)

count_past : (held c n : ℕ) → n ≤ c → free_count (bit_or held (2 ^ c)) n ≡ free_count held n
count_past held c zero h = refl
count_past held c (suc n) h =
    let e = count_past held c n (omega (arith, h)) in
    let o = set_other held c n (λ z. omega (arith, z, h)) in
    omega (arith, e, o)

pub one_less : (held c n : ℕ) → c < n → bit_at held c ≡ 0 → free_count (bit_or held (2 ^ c)) n + 1 ≡ free_count held n
one_less held c zero lt z = absurd (omega (arith, lt))
one_less held c (suc n) lt z =
    elim (cases_eq c n) as (λ _. free_count (bit_or held (2 ^ c)) (suc n) + 1 ≡ free_count held (suc n)) [
      | inl e ↦
          let past = count_past held c n (omega (arith, e)) in
          let here : bit_at (bit_or held (2 ^ c)) n ≡ 1 = ap (bit_at (bit_or held (2 ^ c))) (sym e) ∙ set_same held c in
          let was : bit_at held n ≡ 0 = ap (bit_at held) (sym e) ∙ z in
          omega (arith, past, here, was)
      | inr ne ↦
          let h = one_less held c n (omega (arith, lt, ne)) z in
          let o = set_other held c n (λ q. ne (sym q)) in
          omega (arith, h, o)
    ]

-- ---- a cell that is none, or one of the file that isn't held

abbrev pub IsFree : ℕ → ℕ → Option ℕ → Type 0
IsFree size held None = Unit {0}
IsFree size held (Some c) = (c < size) × (bit_at held c ≡ 0)

abbrev pub AreFree : ℕ → ℕ → List (Option ℕ) → Type 0
AreFree size held [] = Unit {0}
AreFree size held (c ∷ cs) = IsFree size held c × AreFree size held cs

free_less : (size held c : ℕ) (o : Option ℕ) → IsFree size (bit_or held (2 ^ c)) o → IsFree size held o
free_less size held c None h = tt
free_less size held c (Some d) h = (h.0, held_less held c d h.1)

pub holding_less : (size held : ℕ) (c o : Option ℕ) → IsFree size (holding held c) o → IsFree size held o
holding_less size held None o h = h
holding_less size held (Some c) o h = free_less size held c o h

all_less : (size held : ℕ) (c : Option ℕ) (os : List (Option ℕ)) → AreFree size (holding held c) os → AreFree size held os
all_less size held c [] h = tt
all_less size held c (o ∷ os) h = (holding_less size held c o h.0, all_less size held c os h.1)

free_insert : (size held : ℕ) (cs : List (Option ℕ)) (i : ℕ) (c : Option ℕ) → IsFree size held c → AreFree size held cs → AreFree size held (insert cs i c)
free_insert size held cs zero c h k = (h, k)
free_insert size held [] (suc i) c h k = (h, tt)
free_insert size held (d ∷ cs) (suc i) c h k = (k.0, free_insert size held cs i c h k.1)

free_in : (size held : ℕ) (cs : List (Option ℕ)) (i : ℕ) → AreFree size held cs → IsFree size held (cell_in (slice_get cs i))
free_in size held [] zero h = tt
free_in size held [] (suc i) h = tt
free_in size held (c ∷ cs) zero h = h.0
free_in size held (c ∷ cs) (suc i) h = free_in size held cs i h.1

free_tied : (size held : ℕ) (tied : Option ℕ) (cs : List (Option ℕ)) → AreFree size held cs → IsFree size held (tied_cell tied cs)
free_tied size held None cs h = tt
free_tied size held (Some i) cs h = free_in size held cs i h

free_or : (size held : ℕ) (a b : Option ℕ) → IsFree size held a → IsFree size held b → IsFree size held (some_or a b)
free_or size held None b h k = k
free_or size held (Some c) b h k = h

free_chosen : (size held : ℕ) (a : Option ℕ) (c : ℕ) → IsFree size held a → IsFree size held (Some c) → IsFree size held (Some (cell_or a c))
free_chosen size held None c h k = k
free_chosen size held (Some d) c h k = h

-- ---- a form that writes the file leaves its value there, and no other does

pub goal_one : (kind : GoalModel) → (kind ≡ into_file) ⊎ (cells_of_goal kind ≡ 0)
goal_one (into_reg id) = inr refl
goal_one into_memory = inr refl
goal_one into_file = inl refl
goal_one (jumps reach) = inr refl
goal_one (branches when_one to) = inr refl

form_some : (form : Option FormModel) (cells : List (Option ℕ)) (first : Option ℕ) (free : ℕ) → form_cells form ≡ 1 → (c : ℕ) × (form_cell form cells first free ≡ Some c)
form_some None cells first free h = absurd (omega (arith, h))
form_some (Some form) cells first free h =
    (cell_or (some_or (tied_cell form.tied cells) first) free, ap (λ b. if b then Some (cell_or (some_or (tied_cell form.tied cells) first) free) else None) (eq-eqb (cells_of_goal form.goal) 1 h))

form_none : (form : Option FormModel) (cells : List (Option ℕ)) (first : Option ℕ) (free : ℕ) → form_cells form ≡ 0 → form_cell form cells first free ≡ None
form_none None cells first free h = refl
form_none (Some form) cells first free h =
    ap (λ b. if b then Some (cell_or (some_or (tied_cell form.tied cells) first) free) else None) (ne_eqb (cells_of_goal form.goal) 1 (λ z. omega (arith, z, h)))

-- a form's cell is that of its tied operand
pub tied_is : (o : Option FormModel) (form : FormModel) → o ≡ Some form → (cells : List (Option ℕ)) (first : Option ℕ) (free c d : ℕ) → form_cell o cells first free ≡ Some c → tied_cell form.tied cells ≡ Some d → d ≡ c
tied_is None form e cells first free c d h t = absurd (cc)
tied_is (Some r) form e cells first free c d h t = go (cells_of_goal r.goal == 1) h
  where
    same : r ≡ form
    same = cc

    go : (b : Bool) → (if b then Some (cell_or (some_or (tied_cell r.tied cells) first) free) else None) ≡ Some c → d ≡ c
    go true q =
        let at : tied_cell r.tied cells ≡ Some d = ap (λ (z : FormModel). tied_cell z.tied cells) same ∙ t in
        let is : Some (cell_or (some_or (tied_cell r.tied cells) first) free) ≡ Some d = ap (λ z. Some (cell_or (some_or z first) free)) at in
        cc
    go false q = absurd (cc)

form_free : (size held : ℕ) (form : Option FormModel) (cells : List (Option ℕ)) (first : Option ℕ) (free : ℕ) → AreFree size held cells → IsFree size held first
    → (form_cells form ≡ 1 → IsFree size held (Some free)) → IsFree size held (form_cell form cells first free)
form_free size held None cells first free h k f = tt
form_free size held (Some form) cells first free h k f = go (cells_of_goal form.goal == 1) refl
  where
    go : (b : Bool) → (cells_of_goal form.goal == 1) ≡ b → IsFree size held (if b then Some (cell_or (some_or (tied_cell form.tied cells) first) free) else None)
    go true e = free_chosen size held (some_or (tied_cell form.tied cells) first) free (free_or size held (tied_cell form.tied cells) first (free_tied size held form.tied cells h) k) (f (eqb-true (cells_of_goal form.goal) 1 e))
    go false e = tt

left_few : (stock : StockModel) (form : Option FormModel) → form_cells form ≤ 1
left_few stock None = omega arith
left_few stock (Some form) = elim (goal_one form.goal) as (λ _. cells_of_goal form.goal ≤ 1) [ inl e ↦ (let n = ap cells_of_goal e in omega (arith, n)) | inr e ↦ omega (arith, e) ]

module _ (stock : StockModel) where
  pub left_some : (p : CoverModel) (held : ℕ) → left_cells stock.forms p ≡ 1 → (c : ℕ) × (cell_of stock p held ≡ Some c)
  left_some (use_form k ps cs) held h = form_some (slice_get stock.forms k) (operand_homes stock ps held) (first_home stock ps held) (free_cell held stock.file) h

  pub left_none : (p : CoverModel) (held : ℕ) → left_cells stock.forms p ≡ 0 → cell_of stock p held ≡ None
  left_none (use_form k ps cs) held h = form_none (slice_get stock.forms k) (operand_homes stock ps held) (first_home stock ps held) (free_cell held stock.file) h

  pub left_one : (p : CoverModel) → left_cells stock.forms p ≤ 1
  left_one (use_form k ps cs) = left_few stock (slice_get stock.forms k)

  -- what is free besides an operand's cell
  pub room_left : (p : CoverModel) (held n : ℕ) → IsFree stock.file held (cell_of stock p held) → left_cells stock.forms p + n ≤ free_count held stock.file
      → n ≤ free_count (holding held (cell_of stock p held)) stock.file
  room_left p held n f h =
      elim (cases_eq (left_cells stock.forms p) 1) as (λ _. n ≤ free_count (holding held (cell_of stock p held)) stock.file) [
        | inl one ↦
            let (c, e) = left_some p held one in
            let f' : IsFree stock.file held (Some c) = subst (IsFree stock.file held) e f in
            let less = one_less held c stock.file f'.0 f'.1 in
            subst (λ o. n ≤ free_count (holding held o) stock.file) (sym e) (omega (arith, less, one, h))
        | inr other ↦
            let zero_is : left_cells stock.forms p ≡ 0 = (let l = left_one p in omega (arith, l, other)) in
            subst (λ o. n ≤ free_count (holding held o) stock.file) (sym (left_none p held zero_is)) (omega (arith, h))
      ]

  mutual
    -- where the file is large enough, the cell of a cover is free
    pub cell_free : (p : CoverModel) (held : ℕ) → need stock.forms p ≤ free_count held stock.file → IsFree stock.file held (cell_of stock p held)
    cell_free (use_form k ps cs) held h =
        let (homes, first) = homes_free ps held (omega (arith, h)) in
        form_free stock.file held (slice_get stock.forms k) (operand_homes stock ps held) (first_home stock ps held) (free_cell held stock.file) homes first
        (λ one. least_free held stock.file (omega (arith, h, one)))

    pub homes_free : (ps : CoverOperandsModel) (held : ℕ) → operands_need stock.forms ps ≤ free_count held stock.file
        → AreFree stock.file held (operand_homes stock ps held) × IsFree stock.file held (first_home stock ps held)
    homes_free no_operands held h = (tt, tt)
    homes_free (operand_then i p ps) held h =
        let c : Option ℕ = cell_of stock p held in
        let f : IsFree stock.file held c = cell_free p held (omega (arith, h)) in
        let (later, first) = homes_free ps (holding held c) (room_left p held (operands_need stock.forms ps) f (omega (arith, h))) in (
          free_insert stock.file held (operand_homes stock ps (holding held c)) i c f (all_less stock.file held c (operand_homes stock ps (holding held c)) later),
          free_or stock.file held c (first_home stock ps (holding held c)) f (holding_less stock.file held c (first_home stock ps (holding held c)) first),
        )
