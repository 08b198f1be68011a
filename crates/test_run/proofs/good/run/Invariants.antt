use Rattle.std.proofs.Common.{◌≡◌, ◌-◌}
use Rattle.net_model.specs.Widths.{IsState}
use Rattle.fault_sim.specs.Faulty.{as_it_is, seen_run_from}
use Rattle.test_run.proofs.good.run.Given as goal

-- what is left of the run, from where the clocks so far have led
abbrev pub invariant-loop : goal.invariant-loop
invariant-loop l = record {
  netlist : l.sim.netlist ≡ l.initial.sim.netlist;
  words : l.sim.words ≡ l.initial.sim.words;
  state : IsState l.sim.netlist l.sim.state;
  left : seen_run_from as_it_is 0 l.initial.sim.netlist l.initial.sim.words l.initial.sim.state l.clocks
      ≡ seen_run_from as_it_is l.counter l.initial.sim.netlist l.initial.sim.words l.sim.state (l.clocks - l.counter);
}
