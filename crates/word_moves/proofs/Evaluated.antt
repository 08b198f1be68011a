-- The blank state fits.
use Rattle.std.proofs.Common.{slice_get, slice_index, ◌<◌, ◌^◌}
use Rattle.std.proofs.lemmas.Nat.{pow_pos}
use Rattle.net_model.specs.declared.hardware.Netlist.{Netlist}
use Rattle.net_model.specs.Nets.{storage_bits, width_in, held}
use Rattle.net_model.proofs.Spaces.{by_space}
use Rattle.net_model.specs.declared.hardware.Space.TheVariants.{Memory as InMemory, File as InFile}
use Rattle.net_model.specs.Symbolic.{no_state}
use Rattle.net_model.specs.Widths.{StateFits}

pub blank_fits : (netlist : Netlist) → StateFits netlist no_state
blank_fits netlist = record {
  regs = λ id. pow_pos (storage_bits (slice_get netlist.storages id));
  cells = λ space a. by_space (λ space. slice_index (held no_state space) a < 2 ^ width_in space netlist.storages) (pow_pos (width_in InMemory netlist.storages)) (pow_pos (width_in InFile netlist.storages)) space;
}
