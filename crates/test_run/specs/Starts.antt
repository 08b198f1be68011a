-- What the storages hold when a self-test starts.
use Rattle.std.specs.Prelude.{ℕ, zero, suc, ◌+◌, ◌^◌, ◌%◌, List, [], ◌∷◌, length, replicate}
use Rattle.net_model.specs.declared.hardware.Netlist.{Netlist}
use Rattle.net_model.specs.declared.states.State.{State}
use Rattle.net_model.specs.declared.hardware.Space.TheVariants.{File as InFile}
use Rattle.net_model.specs.Nets.{memory_size, memory_width, size_in}

-- so many cells from an address on, each with the number after its address
abbrev pub cells_from : ℕ → ℕ → ℕ → List ℕ
cells_from width address zero = []
cells_from width address (suc n) = (address + 1) % 2 ^ width ∷ cells_from width (address + 1) n

-- each cell of the data memory holds the number after its address, as far as a cell's width goes,
-- and all else 0
abbrev pub test_start : Netlist → State
test_start netlist = record {
  regs = replicate (length netlist.storages) 0;
  cells = cells_from (memory_width netlist.storages) 0 (memory_size netlist.storages);
  file = replicate (size_in InFile netlist.storages) 0;
}
