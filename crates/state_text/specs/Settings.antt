-- What is read of a line of a memory text.
use Rattle.std.specs.Prelude.{◌≡◌}
use Rattle.net_model.specs.declared.hardware.Netlist.{Netlist}
use Rattle.net_model.specs.declared.states.State.{State}
use Rattle.net_model.specs.Widths.{IsState}
use Rattle.net_model.specs.Clock.{counter_in}

-- a state that fits, with the program counter at 0
pub record IsStartState (netlist : Netlist) (s : State) : Type 0 where
  pub state : IsState netlist s
  pub counter : counter_in netlist s ≡ 0
