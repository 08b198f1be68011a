use Rattle.std.proofs.Common.{◌≡◌, ◌-◌}
use Rattle.make_command.specs.Stops.{RunsOn, StandsAt}
use Rattle.make_command.proofs.Clocks.{Underway}
use Rattle.make_command.proofs.ends.clock_to.Given as goal

abbrev pub invariant-loop-clocks : goal.invariant-loop-clocks
invariant-loop-clocks l = record {
  netlist : l.sim.netlist ≡ l.initial.sim.netlist;
  words : l.sim.words ≡ l.initial.sim.words;
  so_far : Underway l.initial.sim.netlist l.initial.sim.words (StandsAt l.initial.sim.netlist l.address) l.initial.sim.state l.clocks l.sim.state;
  ahead : RunsOn l.initial.sim.netlist l.initial.sim.words (StandsAt l.initial.sim.netlist l.address) (l.most - l.clocks) l.sim.state;
}
