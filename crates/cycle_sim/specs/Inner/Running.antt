-- What a simulator keeps.
use Rattle.std.specs.Prelude.{ℕ, ◌≡◌, ◌≤◌, List}
use Rattle.std.specs.List.{AllByRecursion}
use Rattle.net_model.specs.declared.hardware.Netlist.{Netlist}
use Rattle.net_model.specs.declared.states.State.{State}
use Rattle.net_model.specs.declared.hardware.Space.{Space}
use Rattle.net_model.specs.Nets.{memory_width, size_in}
use Rattle.net_model.specs.Widths.{IsState, IsTyped, WordFits}
use Rattle.cycle_sim.specs.declared.program.Program.{Program}
use Rattle.cycle_sim.specs.Inner.Ports.{HasPortWidth, memory_port_width}
use Rattle.cycle_sim.specs.Inner.Programs.{IsProgram, IsRoom}

-- words and state fit the netlist, the program is its own, and the room has a place for each net,
-- where the constants stand
pub record IsRunning (netlist : Netlist) (words : List ℕ) (s : State) (program : Program) (values : List ℕ) : Type 0 where
  pub typed : IsTyped netlist
  pub few : (space : Space) → size_in space netlist.storages ≤ 65536
  pub words_fit : AllByRecursion (WordFits netlist) words
  pub state : IsState netlist s
  pub decoded : IsProgram netlist program
  pub cell_width : memory_port_width program.port ≡ memory_width netlist.storages
  pub port_fits : HasPortWidth program.port
  pub room : IsRoom netlist values
