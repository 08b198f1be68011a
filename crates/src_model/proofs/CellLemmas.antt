-- The cells of variables in a store: those of two variables are apart.
use Rattle.std.proofs.Common.{ℕ, ◌≡◌, ◌≤◌, ◌<◌, ◌+◌, Bool, true, false, if◌then◌else◌, List, [], ◌∷◌, Option, Some, None, refl, sym, ◌∙◌, ap, arith, unwrap_or, is_some, not}
use Rattle.std.proofs.lemmas.Slice.Eq.{bytes_eq-Decides}
use Rattle.src_model.specs.declared.program.Var.{Var as Declared}
use Rattle.src_model.specs.Names.{declared, is_plain, is_array}
use Rattle.rec_bits.specs.Faults.{same_name}
use Rattle.src_model.specs.Indexes.{length_of}
use Rattle.src_model.specs.Meaning.{cells_in, cell_count, first_cell}

-- two names that are one with a third are one
same_both : (a b c : List ℕ) → same_name a c ≡ true → same_name b c ≡ true → same_name a b ≡ true
same_both a b c p q = (bytes_eq-Decides a b).1 ((bytes_eq-Decides a c).0 p ∙ sym ((bytes_eq-Decides b c).0 q))

-- a declared variable has its cells among those of all
pub first_within : (vars : List Declared) (name : List ℕ) (v : Declared) → declared vars name ≡ Some v → first_cell vars name + cells_in v ≤ cell_count vars
first_within [] name v e = absurd (cc e)
first_within (u ∷ rest) name v e = by (first_within rest name v) (same_name name u.name) e
  where
    by : (declared rest name ≡ Some v → first_cell rest name + cells_in v ≤ cell_count rest) → (b : Bool) → (if b then Some u else declared rest name) ≡ Some v → (if b then 0 else cells_in u + first_cell rest name) + cells_in v ≤ cells_in u + cell_count rest
    by more true e = let s : u ≡ v = cc in let t : cells_in u ≡ cells_in v = ap cells_in s in omega arith
    by more false e = let h = more e in omega (arith, h)

-- the cells of two variables are apart
pub cells_apart : (vars : List Declared) (a b : List ℕ) (va vb : Declared) (i j : ℕ) → declared vars a ≡ Some va → declared vars b ≡ Some vb → same_name a b ≡ false
    → i < cells_in va → j < cells_in vb → first_cell vars a + i ≡ first_cell vars b + j → ⊥
cells_apart [] a b va vb i j da db ne li lj e = absurd (cc da)
cells_apart (u ∷ rest) a b va vb i j da db ne li lj e = by (λ da db e. cells_apart rest a b va vb i j da db ne li lj e) (same_name a u.name) (same_name b u.name) refl refl da db e
  where
    by : (declared rest a ≡ Some va → declared rest b ≡ Some vb → first_cell rest a + i ≡ first_cell rest b + j → ⊥) → (x y : Bool) → same_name a u.name ≡ x → same_name b u.name ≡ y → (if x then Some u else declared rest a) ≡ Some va → (if y then Some u else declared rest b) ≡ Some vb
        → (if x then 0 else cells_in u + first_cell rest a) + i ≡ (if y then 0 else cells_in u + first_cell rest b) + j → ⊥
    by more true true p q da db e = let s : same_name a b ≡ true = same_both a b u.name p q in absurd (cc)
    by more true false p q da db e = let s : u ≡ va = cc in let t : cells_in u ≡ cells_in va = ap cells_in s in omega arith
    by more false true p q da db e = let s : u ≡ vb = cc in let t : cells_in u ≡ cells_in vb = ap cells_in s in omega arith
    by more false false p q da db e = more da db (omega arith)

-- ---- declarations

pub plain_var : (o : Option Declared) → is_plain o ≡ true → (v : Declared) × (o ≡ Some v) × (0 < cells_in v)
plain_var None e = absurd (cc e)
plain_var (Some v) e = (v, refl, by v.len e)
  where
    by : (o : Option ℕ) → not (is_some o) ≡ true → 0 < unwrap_or o 1
    by None e = omega arith
    by (Some n) e = absurd (cc e)

pub array_var : (o : Option Declared) (i : ℕ) → is_array o ≡ true → i < length_of o → (v : Declared) × (o ≡ Some v) × (i < cells_in v)
array_var None i e lt = absurd (cc e)
array_var (Some v) i e lt = (v, refl, by v.len lt)
  where
    by : (o : Option ℕ) → i < unwrap_or o 0 → i < unwrap_or o 1
    by None lt = omega arith
    by (Some n) lt = lt
