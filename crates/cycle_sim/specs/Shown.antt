-- What a simulator shows.
use Rattle.std.specs.Prelude.{ℕ, List, Option}
use Rattle.net_model.specs.declared.hardware.Netlist.{Netlist}
use Rattle.net_model.specs.declared.states.State.{State}

-- the netlist, its instruction words, what its storages hold, and the cell that the last clock
-- wrote
pub record Shown : Type 0 where
  pub netlist : Netlist
  pub words : List ℕ
  pub state : State
  pub last_write : Option ℕ
