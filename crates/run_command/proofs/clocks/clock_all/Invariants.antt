use Rattle.std.proofs.Common.{◌≡◌, ◌-◌}
use Rattle.net_model.specs.Clock.{run_from}
use Rattle.run_command.proofs.clocks.clock_all.Given as goal

-- what is left of the run, from where the clocks so far have led
abbrev pub invariant-loop-cycle : goal.invariant-loop-cycle
invariant-loop-cycle l = record {
  netlist : l.sim.netlist ≡ l.initial.sim.netlist;
  words : l.sim.words ≡ l.initial.sim.words;
  left : run_from 0 l.initial.sim.netlist l.initial.sim.words l.initial.sim.state l.clocks ≡ run_from l.cycle l.sim.netlist l.sim.words l.sim.state (l.clocks - l.cycle);
}
