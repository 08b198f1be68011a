-- Registers and the memory among the storages of a netlist.
use Rattle.std.proofs.Common.{◌≡◌, ℕ, zero, suc, ◌<◌, Bool, true, false, cond, List, [], ◌∷◌, length, slice_get, Option, Some, None, refl, ap, arith, sym, ◌∙◌, inl, inr, ◌+◌, ◌≤◌, subst}
use Rattle.std.proofs.lemmas.Option.{slice_get_cases}
use Rattle.net_model.specs.declared.hardware.Netlist.{Netlist}
use Rattle.net_model.specs.declared.hardware.Storage.{Storage}
use Rattle.net_model.specs.declared.hardware.Storage.TheVariants.{Register, Memory, File}
use Rattle.net_model.specs.declared.hardware.Cells.{Cells}
use Rattle.net_model.specs.declared.hardware.Space.{Space}
use Rattle.net_model.specs.declared.hardware.Space.TheVariants.{Memory as InMemory, File as InFile}
use Rattle.net_model.specs.CheckedRules.{memory_count, count_in}
use Rattle.net_model.specs.Patterns.{IsPattern, Pattern}
use Rattle.net_model.specs.Exprs.{ExprModel, keep, write, write_at}
use Rattle.net_model.specs.Nets.{IsMemory, IsRegister, memory_id, storage_array, place_in, HasCells, is_in, space_of, array_in, width_in}
use Rattle.net_model.specs.Clock.{is_enabled}
use Rattle.net_model.specs.Value.{value_of}
use Rattle.net_model.specs.Symbolic.{no_state, sym_of}
use Rattle.net_model.specs.Transfers.{same_reg, transfer_of, array_transfer}

-- a register is one of the storages
pub register_within : (storages : List Storage) (id : ℕ) → IsRegister (slice_get storages id) → id < length storages
register_within [] id r = absurd r
register_within (s ∷ storages) zero r = omega arith
register_within (s ∷ storages) (suc id) r = omega (arith, register_within storages id r)

pub has_cells : (space : Space) (storage : Storage) → HasCells space (Some storage) → is_in space storage ≡ true
has_cells InMemory (Memory cells) h = refl
has_cells InFile (File cells) h = refl
has_cells InMemory (Register name width input when) h = absurd h
has_cells InMemory (File cells) h = absurd h
has_cells InFile (Register name width input when) h = absurd h
has_cells InFile (Memory cells) h = absurd h

some_counted : (b : Bool) (n : ℕ) → cond b 1 0 + n ≡ 0 → b ≡ true → ⊥
some_counted true n e h = absurd (omega (arith, e))
some_counted false n e h = cc

none_behind : (b : Bool) (n : ℕ) → cond b 1 0 + n ≡ 0 → n ≡ 0
none_behind true n e = omega (arith, e)
none_behind false n e = omega (arith, e)

no_cells : (space : Space) (storages : List Storage) (id : ℕ) → count_in space storages ≡ 0 → HasCells space (slice_get storages id) → ⊥
no_cells space [] id e h = none space h
  where
    none : (space : Space) → HasCells space None → ⊥
    none InMemory h = h
    none InFile h = h
no_cells space (storage ∷ storages) zero e h = some_counted (is_in space storage) (count_in space storages) e (has_cells space storage h)
no_cells space (storage ∷ storages) (suc id) e h = no_cells space storages id (none_behind (is_in space storage) (count_in space storages) e) h

-- the cells of a storage that may not be there
abbrev pub array_of : Option Storage → Option Cells
array_of None = None
array_of (Some storage) = storage_array storage

-- where a space has one storage at most, it is the space's
pub record IsFound (space : Space) (storages : List Storage) (id : ℕ) : Type 0 where
  pub place : id ≡ place_in space storages
  pub array : array_in space storages ≡ array_of (slice_get storages id)

found_first : (b : Bool) (space : Space) (storage : Storage) (storages : List Storage) → is_in space storage ≡ b → b ≡ true → IsFound space (storage ∷ storages) zero
found_first true space storage storages e h = record {
  place = ap (λ (c : Bool). cond c 0 (suc (place_in space storages))) (sym e);
  array = ap (λ (c : Bool). cond c (storage_array storage) (array_in space storages)) e;
}
found_first false space storage storages e h = cc

found_later : (b : Bool) (space : Space) (storage : Storage) (storages : List Storage) (id : ℕ) → is_in space storage ≡ b → (b ≡ true → ⊥) → IsFound space storages id → IsFound space (storage ∷ storages) (suc id)
found_later true space storage storages id e h f = absurd (h refl)
found_later false space storage storages id e h f = record {
  place = ap suc f.place ∙ ap (λ (c : Bool). cond c 0 (suc (place_in space storages))) (sym e);
  array = ap (λ (c : Bool). cond c (storage_array storage) (array_in space storages)) e ∙ f.array;
}

pub found : (space : Space) (storages : List Storage) (id : ℕ) → count_in space storages ≤ 1 → HasCells space (slice_get storages id) → IsFound space storages id
found space [] id e h = absurd (no_cells space [] id refl h)
found space (storage ∷ storages) zero e h = found_first (is_in space storage) space storage storages refl (has_cells space storage h)
found space (storage ∷ storages) (suc id) e h =
    found_later (is_in space storage) space storage storages id refl
    (λ t. no_cells space storages id (counted (is_in space storage) (count_in space storages) t e) h)
    (found space storages id (fewer (is_in space storage) (count_in space storages) e) h)
  where
    counted : (b : Bool) (n : ℕ) → b ≡ true → cond b 1 0 + n ≤ 1 → n ≡ 0
    counted true n t l = omega (arith, l)
    counted false n t l = cc

    fewer : (b : Bool) (n : ℕ) → cond b 1 0 + n ≤ 1 → n ≤ 1
    fewer true n l = omega (arith, l)
    fewer false n l = omega (arith, l)

-- a lone memory is the data memory
pub lone_memory : (storages : List Storage) (id : ℕ) → memory_count storages ≡ 1 → IsMemory (slice_get storages id) → id ≡ memory_id storages
lone_memory storages id e h = (found InMemory storages id (omega (arith, e)) h).place

-- the storage with the cells of a space is no register
pub array_no_register : (space : Space) (storages : List Storage) → IsRegister (slice_get storages (place_in space storages)) → ⊥
array_no_register space [] h = h
array_no_register InMemory (Register name width input when ∷ storages) h = array_no_register InMemory storages h
array_no_register InMemory (Memory cells ∷ storages) h = h
array_no_register InMemory (File cells ∷ storages) h = array_no_register InMemory storages h
array_no_register InFile (Register name width input when ∷ storages) h = array_no_register InFile storages h
array_no_register InFile (Memory cells ∷ storages) h = array_no_register InFile storages h
array_no_register InFile (File cells ∷ storages) h = h

pub memory_no_register : (storages : List Storage) → IsRegister (slice_get storages (memory_id storages)) → ⊥
memory_no_register storages h = array_no_register InMemory storages h

-- any other storage is one
pub other_register : (storages : List Storage) (id : ℕ) → ((space : Space) → count_in space storages ≤ 1) → id < length storages → ((space : Space) → id ≡ place_in space storages → ⊥) → IsRegister (slice_get storages id)
other_register storages id one lt ne = by (slice_get storages id) refl
  where
    by : (o : Option Storage) → slice_get storages id ≡ o → IsRegister o
    by None e = absurd (within storages id lt e)
      where
        within : (xs : List Storage) (i : ℕ) → i < length xs → slice_get xs i ≡ None → ⊥
        within [] i p q = absurd (omega arith)
        within (x ∷ xs) zero p q = cc
        within (x ∷ xs) (suc i) p q = within xs i (omega arith) q
    by (Some (Register name width input when)) e = tt
    by (Some (Memory cells)) e = ne InMemory (found InMemory storages id (one InMemory) (subst (HasCells InMemory) (sym e) tt)).place
    by (Some (File cells)) e = ne InFile (found InFile storages id (one InFile) (subst (HasCells InFile) (sym e) tt)).place

-- ---- what a transfer tells of its storage

memory_writes_not : (a : Bool) (t u e : ExprModel) → cond a (write_at t u) keep ≡ write e → ⊥
memory_writes_not true t u e h = cc
memory_writes_not false t u e h = cc

array_writes_not : (netlist : Netlist) (i : ℕ) (cells : Cells) (e : ExprModel) → array_transfer (sym_of netlist i) (value_of netlist no_state i) cells ≡ write e → ⊥
array_writes_not netlist i cells e h =
    memory_writes_not (is_enabled (value_of netlist no_state i) cells.when) (sym_of netlist i cells.addr) (sym_of netlist i cells.value) e h

-- only a register takes a value
pub writes_register : (netlist : Netlist) (i id : ℕ) (e : ExprModel) (o : Option Storage) → transfer_of netlist i id o ≡ write e → IsRegister o
writes_register netlist i id e None h = cc
writes_register netlist i id e (Some (Register name width input when)) h = tt
writes_register netlist i id e (Some (Memory cells)) h = array_writes_not netlist i cells e h
writes_register netlist i id e (Some (File cells)) h = array_writes_not netlist i cells e h

register_stores_not : (a b : Bool) (t u e : ExprModel) → cond a (cond b keep (write t)) keep ≡ write_at u e → ⊥
register_stores_not true true t u e h = cc
register_stores_not true false t u e h = cc
register_stores_not false b t u e h = cc

-- only a memory or a file takes one at an address
pub stores_cells : (netlist : Netlist) (i id : ℕ) (a e : ExprModel) (o : Option Storage) → transfer_of netlist i id o ≡ write_at a e → HasCells (space_of o) o
stores_cells netlist i id a e None h = cc
stores_cells netlist i id a e (Some (Register name width input when)) h =
    register_stores_not (is_enabled (value_of netlist no_state i) when) (same_reg (sym_of netlist i input) id) (sym_of netlist i input) a e h
stores_cells netlist i id a e (Some (Memory cells)) h = tt
stores_cells netlist i id a e (Some (File cells)) h = tt

-- a pattern's storage is one of the netlist's
pub storage_within : (netlist : Netlist) (p : Pattern) → IsPattern netlist p → p.storage < length netlist.storages
storage_within netlist p h =
    elim (slice_get_cases netlist.storages p.storage).1 as (λ _. p.storage < length netlist.storages) [
      | inl w ↦ w.1
      | inr w ↦ absurd (h.changes (sym h.given.gives ∙ ap (transfer_of netlist h.word p.storage) w.1))
    ]

-- ---- places

-- cells of some width are at one of the storages
pub wide_place : (space : Space) (storages : List Storage) → 1 ≤ width_in space storages → place_in space storages < length storages
wide_place space [] h = absurd (omega (arith, h))
wide_place InMemory (Register name width input when ∷ storages) h = omega (arith, wide_place InMemory storages h)
wide_place InMemory (Memory cells ∷ storages) h = omega arith
wide_place InMemory (File cells ∷ storages) h = omega (arith, wide_place InMemory storages h)
wide_place InFile (Register name width input when ∷ storages) h = omega (arith, wide_place InFile storages h)
wide_place InFile (Memory cells ∷ storages) h = omega (arith, wide_place InFile storages h)
wide_place InFile (File cells ∷ storages) h = omega arith

apart : (storages : List Storage) → place_in InMemory storages < length storages → place_in InMemory storages ≡ place_in InFile storages → ⊥
apart [] h e = omega (arith, h)
apart (Register name width input when ∷ storages) h e = apart storages (omega (arith, h)) (omega (arith, e))
apart (Memory cells ∷ storages) h e = omega (arith, e)
apart (File cells ∷ storages) h e = omega (arith, e)

-- the two spaces are at two storages
pub same_space : (space other : Space) (storages : List Storage) → place_in space storages < length storages → place_in space storages ≡ place_in other storages → space ≡ other
same_space InMemory InMemory storages h e = refl
same_space InFile InFile storages h e = refl
same_space InMemory InFile storages h e = absurd (apart storages h e)
same_space InFile InMemory storages h e = absurd (apart storages (subst (λ n. n < length storages) e h) (sym e))

-- the one memory of a netlist is one of its storages
pub memory_within : (storages : List Storage) → memory_count storages ≡ 1 → memory_id storages < length storages
memory_within [] e = absurd (omega (arith, e))
memory_within (Register name width input when ∷ storages) e = (let r = memory_within storages (omega (arith, e)) in omega (arith, r))
memory_within (Memory cells ∷ storages) e = omega arith
memory_within (File cells ∷ storages) e = (let r = memory_within storages (omega (arith, e)) in omega (arith, r))
