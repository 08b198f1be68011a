-- The data memory of a checked netlist.
use Rattle.std.proofs.Common.{◌≡◌, ◌≤◌, ◌==◌, ℕ, Bool, true, false, if◌then◌else◌, List, [], ◌∷◌, length, refl, arith, Option, ◌∙◌, Some, ap, None}
use Rattle.std.specs.Prelude.{slice_get}
use Rattle.std.specs.List.{AllByRecursion}
use Rattle.net_model.proofs.Storages.{array_of, array_no_register}
use Rattle.net_model.specs.LimitRules.{most_cells}
use Rattle.net_model.specs.declared.hardware.Netlist.{Netlist}
use Rattle.net_model.specs.declared.hardware.Storage.{Storage}
use Rattle.net_model.specs.declared.hardware.Storage.TheVariants.{Register, Memory, File}
use Rattle.net_model.specs.declared.hardware.Space.{Space}
use Rattle.net_model.specs.declared.hardware.Space.TheVariants.{Memory as InMemory, File as InFile}
use Rattle.net_model.specs.Nets.{memory_id, memory_size, memory_width, storage_bits, storage_cells, size_in, place_in, held, array_in, IsRegister, width_in, array_size, array_width}
use Rattle.net_model.specs.declared.states.State.{State}
use Rattle.net_model.specs.Widths.{IsState}
use Rattle.net_model.specs.CheckedRules.{HasFewCells, StorageKeeps, memory_count, KeepsRules}
use Rattle.rec_bits.specs.Operators.{IsWidth}

pub array_found : (space : Space) (storages : List Storage) → array_of (slice_get storages (place_in space storages)) ≡ array_in space storages
array_found space [] = refl
array_found InMemory (Register name width input when ∷ storages) = array_found InMemory storages
array_found InMemory (Memory cells ∷ storages) = refl
array_found InMemory (File cells ∷ storages) = array_found InMemory storages
array_found InFile (Register name width input when ∷ storages) = array_found InFile storages
array_found InFile (Memory cells ∷ storages) = array_found InFile storages
array_found InFile (File cells ∷ storages) = refl

size_of_array : (o : Option Storage) → storage_cells o ≡ array_size (array_of o)
size_of_array None = refl
size_of_array (Some storage) = refl

bits_of_array : (o : Option Storage) → (IsRegister o → ⊥) → storage_bits o ≡ array_width (array_of o)
bits_of_array None r = refl
bits_of_array (Some (Register name width input when)) r = absurd (r tt)
bits_of_array (Some (Memory cells)) r = refl
bits_of_array (Some (File cells)) r = refl

pub size_found : (space : Space) (storages : List Storage) → storage_cells (slice_get storages (place_in space storages)) ≡ size_in space storages
size_found space storages = size_of_array (slice_get storages (place_in space storages)) ∙ ap array_size (array_found space storages)

pub width_found : (space : Space) (storages : List Storage) → storage_bits (slice_get storages (place_in space storages)) ≡ width_in space storages
width_found space storages =
    bits_of_array (slice_get storages (place_in space storages)) (array_no_register space storages)
    ∙ ap array_width (array_found space storages)

pub memory_found : (storages : List Storage) → storage_cells (slice_get storages (memory_id storages)) ≡ memory_size storages
memory_found storages = size_found InMemory storages

pub memory_wide : (storages : List Storage) → storage_bits (slice_get storages (memory_id storages)) ≡ memory_width storages
memory_wide storages = width_found InMemory storages

memory_is_wide : (netlist : Netlist) (storages : List Storage) → AllByRecursion (StorageKeeps netlist) storages → memory_count storages ≡ 1 → IsWidth (memory_width storages)
memory_is_wide netlist [] keeps one = absurd (omega arith)
memory_is_wide netlist (Register name width input when ∷ storages) keeps one = memory_is_wide netlist storages keeps.1 (omega (arith, one))
memory_is_wide netlist (Memory cells ∷ storages) keeps one = keeps.0.0
memory_is_wide netlist (File cells ∷ storages) keeps one = memory_is_wide netlist storages keeps.1 (omega (arith, one))

pub memory_width_of : (netlist : Netlist) (order : List ℕ) → KeepsRules netlist order → IsWidth (memory_width netlist.storages)
memory_width_of netlist order rules = memory_is_wide netlist netlist.storages rules.formed.storages rules.roles.memory

-- in no edition are there more than 65,536
pub most_within : (edition : ℕ) (space : Space) → most_cells edition space ≤ 65536
most_within edition InMemory = omega arith
most_within edition InFile = by (edition == 4)
  where
    by : (b : Bool) → (if b then 65536 else 32) ≤ 65536
    by true = omega arith
    by false = omega arith

few_in : (edition : ℕ) (space : Space) (storages : List Storage) → AllByRecursion (HasFewCells edition) storages → size_in space storages ≤ most_cells edition space
few_in edition InMemory [] h = omega arith
few_in edition InFile [] h = omega arith
few_in edition InMemory (Register name width input when ∷ storages) h = few_in edition InMemory storages h.1
few_in edition InMemory (Memory cells ∷ storages) h = h.0
few_in edition InMemory (File cells ∷ storages) h = few_in edition InMemory storages h.1
few_in edition InFile (Register name width input when ∷ storages) h = few_in edition InFile storages h.1
few_in edition InFile (Memory cells ∷ storages) h = few_in edition InFile storages h.1
few_in edition InFile (File cells ∷ storages) h = h.0

-- neither space has more than 65,536
pub few_sizes : (netlist : Netlist) (order : List ℕ) → KeepsRules netlist order → (space : Space) → size_in space netlist.storages ≤ 65536
few_sizes netlist order k space = omega (arith, few_in netlist.edition space netlist.storages k.formed.limits.cells, most_within netlist.edition space)

pub few_cells : (netlist : Netlist) (order : List ℕ) (s : State) (space : Space) → KeepsRules netlist order → IsState netlist s → length (held s space) ≤ 65536
few_cells netlist order s space k h = omega (arith, h.cells space, few_sizes netlist order k space)
