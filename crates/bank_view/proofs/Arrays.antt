-- The two memories of a netlist: what each memory among the storages is.
use Rattle.std.proofs.Common.{◌≡◌, ℕ, zero, suc, ◌+◌, ◌-◌, ◌<◌, Bool, true, false, cond, List, [], ◌∷◌, length, slice_get, Option, Some, None, refl, ap, sym, ◌∙◌, subst, arith, inl, inr}
use Rattle.std.specs.List.{remove}
use Rattle.std.proofs.lemmas.Bool.{cases_lt, le-ltb, lt-ltb}
use Rattle.net_model.specs.declared.hardware.Netlist.{Netlist}
use Rattle.net_model.specs.declared.hardware.Storage.{Storage}
use Rattle.net_model.specs.declared.hardware.Storage.TheVariants.{Register, Memory, File}
use Rattle.net_model.specs.declared.hardware.Cells.{Cells}
use Rattle.net_model.specs.declared.hardware.Space.{Space}
use Rattle.net_model.specs.declared.hardware.Space.TheVariants.{Memory as InMemory, File as InFile}
use Rattle.net_model.specs.Nets.{HasCells, IsRegister, array_in, is_in, memory_id, place_in, space_at, space_of}
use Rattle.net_model.specs.Widths.{HasWidth}
use Rattle.net_model.specs.CheckedRules.{ReadKeeps, count_in}
use Rattle.net_model.specs.Elaborated.{storage_in}
use Rattle.net_model.proofs.Storages.{array_no_register, array_of, found}
use Rattle.bank_view.specs.Banks.{addr_bits, bank_place, memory_port, others, port_in, port_of}
use Rattle.bank_view.specs.Inner.Banked.{IsBeside}
use Rattle.bank_view.specs.Views.{less_one}

-- a number one less, behind the bank
less_next : (bank storage : ℕ) → less_one (suc bank) (suc storage) ≡ suc (less_one bank storage)
less_next bank storage =
    elim (cases_lt bank storage) as (λ _. less_one (suc bank) (suc storage) ≡ suc (less_one bank storage)) [
      | inl lt ↦
          let less : suc storage - 1 ≡ suc (storage - 1) = omega (arith, lt) in
          ap (λ b. cond b (suc storage - 1) (suc storage)) (lt-ltb (suc bank) (suc storage) (omega (arith, lt)))
          ∙ less ∙ sym (ap (λ b. suc (cond b (storage - 1) storage)) (lt-ltb bank storage lt))
      | inr ge ↦
          ap (λ b. cond b (suc storage - 1) (suc storage)) (le-ltb (suc bank) (suc storage) (omega (arith, ge)))
          ∙ sym (ap (λ b. suc (cond b (storage - 1) storage)) (le-ltb bank storage ge))
    ]

-- the first memory stands among the others at its own place, or at one before it
pub memory_here : (storages : List Storage) → less_one (place_in InFile storages) (place_in InMemory storages) ≡ memory_id (remove storages (place_in InFile storages))
memory_here [] = refl
memory_here (Register name width input when ∷ storages) = less_next (place_in InFile storages) (place_in InMemory storages) ∙ ap suc (memory_here storages)
memory_here (Memory cells ∷ storages) = ap (λ b. cond b (0 - 1) 0) (le-ltb (suc (place_in InFile storages)) 0 (omega arith))
memory_here (File cells ∷ storages) =
    let less : suc (place_in InMemory storages) - 1 ≡ place_in InMemory storages = omega arith in
    ap (λ b. cond b (suc (place_in InMemory storages) - 1) (suc (place_in InMemory storages))) (lt-ltb 0 (suc (place_in InMemory storages)) (omega arith)) ∙ less

-- the memory among the others is the memory
pub other_memory : (storages : List Storage) → array_in InMemory (remove storages (place_in InFile storages)) ≡ array_in InMemory storages
other_memory [] = refl
other_memory (Register name width input when ∷ storages) = other_memory storages
other_memory (Memory cells ∷ storages) = refl
other_memory (File cells ∷ storages) = refl

-- a space that has a storage has cells
pub there_in : (space : Space) (storages : List Storage) → count_in space storages ≡ 1 → (cells : Cells) × (array_in space storages ≡ Some cells)
there_in space [] e = absurd (omega (arith, e))
there_in InMemory (Register name width input when ∷ storages) e = there_in InMemory storages (omega (arith, e))
there_in InMemory (Memory cells ∷ storages) e = (cells, refl)
there_in InMemory (File cells ∷ storages) e = there_in InMemory storages (omega (arith, e))
there_in InFile (Register name width input when ∷ storages) e = there_in InFile storages (omega (arith, e))
there_in InFile (Memory cells ∷ storages) e = there_in InFile storages (omega (arith, e))
there_in InFile (File cells ∷ storages) e = (cells, refl)

-- the only storage of a space has its cells
pub lone_array : (d : Netlist) → IsBeside d → (space : Space) (id : ℕ) (cells : Cells) → slice_get d.storages id ≡ Some (storage_in space cells) → array_in space d.storages ≡ Some cells
lone_array d h InMemory id cells e = (found InMemory d.storages id (omega (arith, h.memories)) (subst (HasCells InMemory) (sym e) tt)).array ∙ ap array_of e
lone_array d h InFile id cells e = (found InFile d.storages id (omega (arith, h.lone)) (subst (HasCells InFile) (sym e) tt)).array ∙ ap array_of e

-- so the only memory among the others has the memory's
pub other_array : (d : Netlist) → IsBeside d → (id : ℕ) (cells : Cells) → slice_get (others d) id ≡ Some (Memory cells) → array_in InMemory d.storages ≡ Some cells
other_array d h id cells e =
    sym (other_memory d.storages)
    ∙ (found InMemory (others d) id (omega (arith, h.one)) (subst (HasCells InMemory) (sym e) tt)).array ∙ ap array_of e

-- the others have no file
pub others_no_file : (d : Netlist) → IsBeside d → (id : ℕ) (cells : Cells) → slice_get (others d) id ≡ Some (File cells) → ⊥
others_no_file d h id cells e = by (others d) id h.none e
  where
    by : (storages : List Storage) (i : ℕ) → count_in InFile storages ≡ 0 → slice_get storages i ≡ Some (File cells) → ⊥
    by [] i n e = cc
    by (Register name width input when ∷ storages) zero n e = cc
    by (Memory own ∷ storages) zero n e = cc
    by (File own ∷ storages) i n e = omega (arith, n)
    by (Register name width input when ∷ storages) (suc i) n e = by storages i (omega (arith, n)) e
    by (Memory own ∷ storages) (suc i) n e = by storages i (omega (arith, n)) e

-- a storage other than the bank is no file
pub no_file : (d : Netlist) → IsBeside d → (id : ℕ) (storage : Storage) → slice_get d.storages id ≡ Some storage → (id ≡ bank_place d → ⊥) → is_in InFile storage ≡ false
no_file d h id (Register name width input when) e ne = refl
no_file d h id (Memory cells) e ne = refl
no_file d h id (File cells) e ne = absurd (ne (found InFile d.storages id (omega (arith, h.lone)) (subst (HasCells InFile) (sym e) tt)).place)

-- a register isn't the bank
pub not_bank : (d : Netlist) (id : ℕ) → IsRegister (slice_get d.storages id) → id ≡ bank_place d → ⊥
not_bank d id r e = array_no_register InFile d.storages (subst (λ n. IsRegister (slice_get d.storages n)) e r)

-- a read is of the memory or of the bank, which have the same widths
pub read_width : (d : Netlist) → IsBeside d → (width addr memory : ℕ) → ReadKeeps d width addr (slice_get d.storages memory) → (memory_port d).width ≡ width
read_width d h width addr memory k = by (slice_get d.storages memory) refl k
  where
    by : (o : Option Storage) → slice_get d.storages memory ≡ o → ReadKeeps d width addr o → (memory_port d).width ≡ width
    by None e k = absurd k
    by (Some (Register name own input when)) e k = absurd k
    by (Some (Memory cells)) e k = ap (λ (o : Option Cells). (port_of o).width) (lone_array d h InMemory memory cells e) ∙ k.0
    by (Some (File cells)) e k = sym h.width ∙ ap (λ (o : Option Cells). (port_of o).width) (lone_array d h InFile memory cells e) ∙ k.0

-- at an address of their width
pub read_addr : (d : Netlist) → IsBeside d → (width addr memory : ℕ) → ReadKeeps d width addr (slice_get d.storages memory) → HasWidth d addr (addr_bits d)
read_addr d h width addr memory k = by (slice_get d.storages memory) refl k
  where
    by : (o : Option Storage) → slice_get d.storages memory ≡ o → ReadKeeps d width addr o → HasWidth d addr (addr_bits d)
    by None e k = absurd k
    by (Some (Register name own input when)) e k = absurd k
    by (Some (Memory cells)) e k =
        (k.1.0, k.1.1 ∙ sym (ap (λ (o : Option Cells). (port_of o).addr_width) (lone_array d h InMemory memory cells e)))
    by (Some (File cells)) e k =
        (k.1.0, k.1.1 ∙ sym (ap (λ (o : Option Cells). (port_of o).addr_width) (lone_array d h InFile memory cells e)) ∙ h.addresses)
