-- The simulator that holds the state of a netlist with modes.
use Rattle.std.specs.Prelude.{◌≡◌}
use Rattle.net_model.specs.Fixed.{mode_in}
use Rattle.net_model.specs.ModeRules.{base_at}
use Rattle.net_model.specs.Widths.{IsState}
use Rattle.cycle_sim.specs.Shown.{Shown}

-- the simulator of what the netlist is in the mode of the state holds the state
pub record IsHeldBy (whole sim : Shown) : Type 0 where
  pub netlist : sim.netlist ≡ base_at whole.netlist (mode_in whole.netlist.special whole.state)
  pub words : sim.words ≡ whole.words
  pub state : sim.state ≡ whole.state
  pub last_write : sim.last_write ≡ whole.last_write
  pub fits : IsState sim.netlist sim.state
