-- What the rules say of the memory and the bank.
use Rattle.std.proofs.Common.{◌≡◌, ℕ, zero, suc, ◌+◌, ◌<◌, ◌≤◌, ◌^◌, Bool, true, false, if◌then◌else◌, List, [], ◌∷◌, length, slice_get, Option, Some, None, refl, ap, sym, ◌∙◌, subst, arith}
use Rattle.std.specs.List.{remove}
use Rattle.net_model.specs.declared.hardware.Netlist.{Netlist}
use Rattle.net_model.specs.declared.hardware.Cells.{Cells}
use Rattle.net_model.specs.declared.hardware.Storage.{Storage}
use Rattle.net_model.specs.declared.hardware.Storage.TheVariants.{Register, Memory, File}
use Rattle.net_model.specs.declared.hardware.Space.{Space}
use Rattle.net_model.specs.declared.hardware.Space.TheVariants.{Memory as InMemory, File as InFile}
use Rattle.net_model.specs.declared.states.State.{State}
use Rattle.net_model.specs.Editions.{is_banked}
use Rattle.net_model.specs.Nets.{HasCells, addr_width_in, array_addr_width, array_in, array_size, array_width, memory_size, memory_width, place_in, size_in, width_in}
use Rattle.net_model.specs.Widths.{IsState, IsTyped}
use Rattle.net_model.specs.CheckedRules.{HasBankBeside, HasBankIf, IsAddressed, count_in, memory_addr_width, memory_count}
use Rattle.net_model.proofs.KeptRules.{typed_of, length-storages}
use Rattle.bank_view.specs.Banks.{addr_bits, bank_place, bank_port, memory_port, others, port_of}
use Rattle.bank_view.specs.Keeping.{HasBanks, KeepsBanks}
use Rattle.bank_view.specs.Inner.Banked.{IsBeside}

pub port_width : (o : Option Cells) → (port_of o).width ≡ array_width o
port_width None = refl
port_width (Some cells) = refl

pub port_size : (o : Option Cells) → (port_of o).size ≡ array_size o
port_size None = refl
port_size (Some cells) = refl

port_bits : (o : Option Cells) → (port_of o).addr_width ≡ array_addr_width o
port_bits None = refl
port_bits (Some cells) = refl

-- where there is a file, it stands at the bank's place
file_there : (storages : List Storage) → count_in InFile storages ≡ 1 → HasCells InFile (slice_get storages (place_in InFile storages))
file_there [] e = absurd (omega (arith, e))
file_there (Register name width input when ∷ storages) e = file_there storages (omega (arith, e))
file_there (Memory cells ∷ storages) e = file_there storages (omega (arith, e))
file_there (File cells ∷ storages) e = tt

-- the bank is no memory
same_memories : (storages : List Storage) → memory_count (remove storages (place_in InFile storages)) ≡ memory_count storages
same_memories [] = refl
same_memories (Register name width input when ∷ storages) = ap (λ n. 0 + n) (same_memories storages)
same_memories (Memory cells ∷ storages) = ap (λ n. 1 + n) (same_memories storages)
same_memories (File cells ∷ storages) = omega arith

-- and no other storage is a file
no_files : (storages : List Storage) → count_in InFile storages ≡ 1 → count_in InFile (remove storages (place_in InFile storages)) ≡ 0
no_files [] e = absurd (omega (arith, e))
no_files (Register name width input when ∷ storages) e = omega (arith, no_files storages (omega (arith, e)))
no_files (Memory cells ∷ storages) e = omega (arith, no_files storages (omega (arith, e)))
no_files (File cells ∷ storages) e = omega (arith, e)

pub beside_of : (d : Netlist) → HasBanks d → IsBeside d
beside_of d h =
    let own : HasBankBeside d.storages d.special = subst (λ (b : Bool). HasBankIf b d) h.banked h.roles.bank in
    let file : Option Cells = array_in InFile d.storages in
    let memory : Option Cells = array_in InMemory d.storages in
    record {
      bank = file_there d.storages own.one;
      lone = own.one;
      memories = h.roles.memory;
      one = same_memories d.storages ∙ h.roles.memory;
      none = no_files d.storages own.one;
      width = port_width file ∙ own.width ∙ sym (port_width memory);
      addresses = port_bits file ∙ own.addresses ∙ sym (port_bits memory);
      size = (
        omega (arith, port_size file, own.size.0),
        subst (λ n. (bank_port d).size ≤ 2 ^ n) (sym (port_bits memory)) (omega (arith, port_size file, own.size.1)),
      );
      full = port_size memory ∙ own.full ∙ ap (λ n. 2 ^ n) (sym (port_bits memory));
      few = omega (arith, port_bits memory, own.few);
      narrow = omega (arith, port_bits memory, port_width memory, own.narrow);
    }

pub few_nets : (d : Netlist) → HasBanks d → length d.nets ≤ 1000
few_nets d h = subst (λ (b : Bool). length d.nets ≤ (if b then 1000 else 4096)) h.banked h.formed.limits.nets

pub storages_few : (d : Netlist) → HasBanks d → length d.storages ≤ 15
storages_few d h =
    let b = beside_of d h in
    omega (arith, length-storages d.storages, h.formed.limits.registers, b.memories, b.lone)

pub banks_of : (d : Netlist) (order : List ℕ) → KeepsBanks d order → HasBanks d
banks_of d order k = record { banked = k.banked; formed = k.rules.formed; roles = k.rules.roles }

pub typed_beside : (d : Netlist) → HasBanks d → IsTyped d
typed_beside d h = typed_of d h.formed h.roles

-- a state has a cell for each address
pub long_cells : (d : Netlist) → IsBeside d → (s : State) → IsState d s → length s.cells ≡ 2 ^ addr_bits d
long_cells d b s is = is.cells InMemory ∙ sym (port_size (array_in InMemory d.storages)) ∙ b.full
