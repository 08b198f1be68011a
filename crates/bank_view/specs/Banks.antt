-- The two data memories of a netlist that has a bank: its memory, and the bank, which is its only
-- file.
use Rattle.std.specs.Prelude.{ℕ, List, [], Option, Some, None}
use Rattle.std.specs.List.{remove}
use Rattle.net_model.specs.declared.hardware.Netlist.{Netlist}
use Rattle.net_model.specs.declared.hardware.Storage.{Storage}
use Rattle.net_model.specs.declared.hardware.Cells.{Cells}
use Rattle.net_model.specs.declared.hardware.Space.{Space}
use Rattle.net_model.specs.declared.hardware.Space.TheVariants.{Memory as InMemory, File as InFile}
use Rattle.net_model.specs.declared.states.State.{State}
use Rattle.net_model.specs.Nets.{array_in, place_in}
use Rattle.bank_view.specs.declared.ports.Port.{Port}

-- the number of the bank's storage
abbrev pub bank_place : Netlist → ℕ
bank_place n = place_in InFile n.storages

-- the storages but the bank
abbrev pub others : Netlist → List Storage
others n = remove n.storages (bank_place n)

-- what feeds cells; zeros where there are none
abbrev pub port_of : Option Cells → Port
port_of (Some cells) = record {
  name_at = cells.name_at;
  size = cells.size;
  width = cells.width;
  addr_width = cells.addr_width;
  value = cells.value;
  addr = cells.addr;
  when = cells.when;
}
port_of None = record { name_at = 0; size = 0; width = 0; addr_width = 0; value = 0; addr = 0; when = None }

abbrev pub port_in : Space → Netlist → Port
port_in space n = port_of (array_in space n.storages)

abbrev pub bank_port : Netlist → Port
bank_port n = port_in InFile n

abbrev pub memory_port : Netlist → Port
memory_port n = port_in InMemory n

-- the bits of an address of the memory, which has a cell for each
abbrev pub addr_bits : Netlist → ℕ
addr_bits n = (memory_port n).addr_width
