-- The addresses of the data memory, and its storages in mode 0.
use Rattle.std.proofs.Common.{◌≡◌, ◌∙◌, List, [], ◌∷◌, ap, refl, slice_get}
use Rattle.net_model.specs.declared.hardware.Netlist.{Netlist}
use Rattle.net_model.specs.declared.hardware.Storage.{Storage}
use Rattle.net_model.specs.declared.hardware.Storage.TheVariants.{Register, Memory, File}
use Rattle.net_model.specs.CheckedRules.{memory_addr_width}
use Rattle.net_model.specs.ModeRules.{base_at}
use Rattle.net_model.specs.Nets.{memory_id}
use Rattle.net_model.proofs.Bases.{base_of}
use Rattle.code_gen.specs.Inner.Memories.{storage_addr_bits}

pub addresses_found : (storages : List Storage) → storage_addr_bits (slice_get storages (memory_id storages)) ≡ memory_addr_width storages
addresses_found [] = refl
addresses_found (Register name width input when ∷ storages) = addresses_found storages
addresses_found (Memory cells ∷ storages) = refl
addresses_found (File cells ∷ storages) = addresses_found storages

-- what a netlist is in mode 0 has its storages
pub first_storages : (netlist base : Netlist) → base ≡ base_at netlist 0 → base.storages ≡ netlist.storages
first_storages netlist base is = ap (λ (n : Netlist). n.storages) is ∙ (base_of netlist netlist.special 0).storages
