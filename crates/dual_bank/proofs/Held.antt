-- The layout of two memories holds the variables: each has its cells in one of them, behind the
-- temporary ones, and none where another has.
use Rattle.std.proofs.Common.{◌≡◌, ℕ, ◌+◌, ◌*◌, ◌-◌, ◌%◌, ◌^◌, ◌<◌, ◌≤◌, ◌⊎◌, inl, inr, Bool, true, false, if◌then◌else◌, List, [], ◌∷◌, length, Some, refl, ap, arith}
use Rattle.std.proofs.Math.Nat.{mod-eq_of_lt, mod-eq-sub-mod}
use Rattle.std.proofs.lemmas.Grind.{pow_more}
use Rattle.rec_bits.specs.Faults.{same_name}
use Rattle.src_model.specs.declared.program.Var.{Var as Declared}
use Rattle.src_model.specs.Names.{declared}
use Rattle.src_model.specs.Meaning.{cells_in}
use Rattle.src_model.specs.Rules.{temp_count}
use Rattle.src_model.specs.Written.{ProgramModel}
use Rattle.code_model.specs.declared.image.Place.{Place}
use Rattle.src_trees.specs.Lowered.{base_of}
use Rattle.src_trees.specs.Held.{StandFor, LieWithin, IsAlone, AreAlone, HoldsVars, HasCellRoom}
use Rattle.dual_bank.specs.Banked.{joined_memory}
use Rattle.dual_bank.specs.Layouts.{bank_cells, memory_cells, places_by, bank_layout, FitsBanks}

-- ---- places from two addresses on

stand : (low high : ℕ) (in_bank : List Bool) (vars : List Declared) → length in_bank ≡ length vars → StandFor (places_by low high in_bank vars) vars
stand low high [] [] e = tt
stand low high [] (v ∷ vars) e = absurd (omega arith)
stand low high (b ∷ in_bank) [] e = absurd (omega arith)
stand low high (true ∷ in_bank) (v ∷ vars) e = (refl, refl, stand low (high + cells_in v) in_bank vars (omega arith))
stand low high (false ∷ in_bank) (v ∷ vars) e = (refl, refl, stand (low + cells_in v) high in_bank vars (omega arith))

within : (first end low high : ℕ) (in_bank : List Bool) (vars : List Declared) → first ≤ low → first ≤ high → low + memory_cells in_bank vars ≤ end → high + bank_cells in_bank vars ≤ end → LieWithin first end (places_by low high in_bank vars)
within first end low high [] vars l h m b = tt
within first end low high (true ∷ in_bank) [] l h m b = tt
within first end low high (false ∷ in_bank) [] l h m b = tt
within first end low high (true ∷ in_bank) (v ∷ vars) l h m b = (h, omega arith, within first end low (high + cells_in v) in_bank vars l (omega arith) m (omega arith))
within first end low high (false ∷ in_bank) (v ∷ vars) l h m b = (l, omega arith, within first end (low + cells_in v) high in_bank vars (omega arith) h (omega arith) b)

-- a place that is clear of both rows
clear : (p : Place) (low high : ℕ) (in_bank : List Bool) (vars : List Declared) → ((p.address + p.len ≤ low) ⊎ (low + memory_cells in_bank vars ≤ p.address)) → ((p.address + p.len ≤ high) ⊎ (high + bank_cells in_bank vars ≤ p.address))
    → IsAlone p (places_by low high in_bank vars)
clear p low high [] vars m b = tt
clear p low high (true ∷ in_bank) [] m b = tt
clear p low high (false ∷ in_bank) [] m b = tt
clear p low high (true ∷ in_bank) (v ∷ vars) m (inl le) = (inl le, clear p low (high + cells_in v) in_bank vars m (inl (omega (arith, le))))
clear p low high (true ∷ in_bank) (v ∷ vars) m (inr le) = (inr (omega (arith, le)), clear p low (high + cells_in v) in_bank vars m (inr (omega (arith, le))))
clear p low high (false ∷ in_bank) (v ∷ vars) (inl le) b = (inl le, clear p (low + cells_in v) high in_bank vars (inl (omega (arith, le))) b)
clear p low high (false ∷ in_bank) (v ∷ vars) (inr le) b = (inr (omega (arith, le)), clear p (low + cells_in v) high in_bank vars (inr (omega (arith, le))) b)

alone : (low high : ℕ) (in_bank : List Bool) (vars : List Declared) → low + memory_cells in_bank vars ≤ high → AreAlone (places_by low high in_bank vars)
alone low high [] vars le = tt
alone low high (true ∷ in_bank) [] le = tt
alone low high (false ∷ in_bank) [] le = tt
alone low high (true ∷ in_bank) (v ∷ vars) le =
    (clear (record { name = v.name; address = high; len = cells_in v }) low (high + cells_in v) in_bank vars (inr le) (inl (omega arith)), alone low (high + cells_in v) in_bank vars (omega arith))
alone low high (false ∷ in_bank) (v ∷ vars) le =
    (clear (record { name = v.name; address = low; len = cells_in v }) (low + cells_in v) high in_bank vars (inl (omega arith)) (inl (omega arith)), alone (low + cells_in v) high in_bank vars (omega arith))

-- ---- each in one memory

-- so many cells from an address on are in one of two memories of this size
abbrev pub IsInOne : ℕ → ℕ → ℕ → Type 0
IsInOne size address len = (address + len ≤ size) ⊎ ((size ≤ address) × (address + len ≤ size * 2))

abbrev pub AreInOne : ℕ → List Place → Type 0
AreInOne size [] = Unit {0}
AreInOne size (p ∷ places) = IsInOne size p.address p.len × AreInOne size places

in_one : (size low high : ℕ) (in_bank : List Bool) (vars : List Declared) → low + memory_cells in_bank vars ≤ size → size ≤ high → high + bank_cells in_bank vars ≤ size * 2 → AreInOne size (places_by low high in_bank vars)
in_one size low high [] vars m h b = tt
in_one size low high (true ∷ in_bank) [] m h b = tt
in_one size low high (false ∷ in_bank) [] m h b = tt
in_one size low high (true ∷ in_bank) (v ∷ vars) m h b = (inr (h, omega arith), in_one size low (high + cells_in v) in_bank vars m (omega arith) (omega arith))
in_one size low high (false ∷ in_bank) (v ∷ vars) m h b = (inl (omega arith), in_one size (low + cells_in v) high in_bank vars (omega arith) h b)

pub var_in_one : (size : ℕ) (places : List Place) (vars : List Declared) (name : List ℕ) (v : Declared) → StandFor places vars → AreInOne size places → declared vars name ≡ Some v → IsInOne size (base_of places name) (cells_in v)
var_in_one size [] [] name v s w e = absurd (cc e)
var_in_one size [] (u ∷ vars) name v s w e = absurd s
var_in_one size (p ∷ places) [] name v s w e = absurd s
var_in_one size (p ∷ places) (u ∷ vars) name v s w e =
    by (var_in_one size places vars name v s.2 w.1) (same_name name u.name) (same_name name p.name) (ap (same_name name) s.0) e w.0
  where
    by : (declared vars name ≡ Some v → IsInOne size (base_of places name) (cells_in v)) → (b c : Bool) → c ≡ b → (if b then Some u else declared vars name) ≡ Some v → IsInOne size p.address p.len
        → IsInOne size (if c then p.address else base_of places name) (cells_in v)
    by more true true q e (inl le) =
        let is : u ≡ v = cc in
        let n : cells_in u ≡ cells_in v = ap cells_in is in
        let l = s.1 in
        inl (omega (arith, n, l, le))
    by more true true q e (inr le) =
        let is : u ≡ v = cc in
        let n : cells_in u ≡ cells_in v = ap cells_in is in
        let l = s.1 in
        inr (le.0, omega (arith, n, l, le.1))
    by more false false q e o = more e
    by more true false q e o = absurd (cc)
    by more false true q e o = absurd (cc)

-- a cell of a variable is in the memory in which the variable begins
pub cell_in_one : (k base len i : ℕ) → IsInOne (2 ^ k) base len → i < len → i + base % 2 ^ k < 2 ^ k
cell_in_one k base len i (inl le) lt =
    let below : base < 2 ^ k = omega (arith, le, lt) in
    let m : base % 2 ^ k ≡ base = mod-eq_of_lt below in
    omega (arith, m, le, lt)
cell_in_one k base len i (inr le) lt =
    let m : base % 2 ^ k ≡ (base - 2 ^ k) % 2 ^ k = mod-eq-sub-mod le.0 in
    let s : base - 2 ^ k < 2 ^ k = omega (arith, le.0, le.1, lt) in
    let t : (base - 2 ^ k) % 2 ^ k ≡ base - 2 ^ k = mod-eq_of_lt s in
    omega (arith, m, t, le.0, le.1, lt)

-- ---- the layout

module _ (word k bank : ℕ) (in_bank : List Bool) (l : ProgramModel) (fits : FitsBanks word k bank in_bank l) where
  pub bank_in_one : AreInOne (2 ^ k) (bank_layout word k in_bank l).list
  bank_in_one =
      let memory = fits.memory in
      let enough = fits.enough in
      let least = fits.least in
      in_one (2 ^ k) (temp_count word l) (2 ^ k) in_bank l.vars memory (omega arith) (omega (arith, enough, least))

  pub bank_held : HoldsVars (temp_count word l) l.vars (joined_memory word k (bank_layout word k in_bank l).list)
  bank_held =
      let memory = fits.memory in
      let enough = fits.enough in
      let least = fits.least in
      let wide = fits.wide in
      record {
        some = omega arith;
        narrow = omega (arith, wide);
        stand = stand (temp_count word l) (2 ^ k) in_bank l.vars fits.flags;
        within = within (temp_count word l) (2 ^ (k + 1)) (temp_count word l) (2 ^ k) in_bank l.vars (omega arith) (omega (arith, memory)) (omega (arith, pow_more 2 k, memory)) (omega (arith, pow_more 2 k, enough, least));
        alone = alone (temp_count word l) (2 ^ k) in_bank l.vars memory;
      }

  -- the cells of both memories are enough
  pub bank_room : HasCellRoom (temp_count word l) (joined_memory word k (bank_layout word k in_bank l).list) (2 ^ k + bank)
  bank_room =
      let memory = fits.memory in
      let enough = fits.enough in
      record {
        below = omega (arith, memory);
        within = within (temp_count word l) (2 ^ k + bank) (temp_count word l) (2 ^ k) in_bank l.vars (omega arith) (omega (arith, memory)) (omega (arith, memory)) (omega (arith, enough));
      }
