-- What a simulator of a faulty netlist keeps.
use Rattle.std.specs.Prelude.{ℕ, ◌≡◌, ◌≤◌, List, length, slice_index}
use Rattle.std.specs.List.{AllByRecursion}
use Rattle.net_model.specs.declared.hardware.Netlist.{Netlist}
use Rattle.net_model.specs.declared.states.State.{State}
use Rattle.net_model.specs.declared.hardware.Space.{Space}
use Rattle.net_model.specs.Nets.{size_in}
use Rattle.net_model.specs.Widths.{IsState, ValuesFit, WordFits}
use Rattle.fault_sim.specs.declared.fault.Fault.{Fault}
use Rattle.fault_sim.specs.Faulty.{IsFault}

-- fault, words and state fit the netlist, and the array has a number for each net, of its width
pub record IsRunning (netlist : Netlist) (fault : Fault) (words : List ℕ) (s : State) (values : List ℕ) : Type 0 where
  pub few : (space : Space) → size_in space netlist.storages ≤ 65536
  pub stuck : IsFault netlist fault
  pub words_fit : AllByRecursion (WordFits netlist) words
  pub state : IsState netlist s
  pub long : length values ≡ length netlist.nets
  pub fit : ValuesFit netlist (slice_index values)
