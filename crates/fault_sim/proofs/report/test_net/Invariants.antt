use Rattle.std.proofs.Common.{◌≡◌, ◌-◌, ◌++◌}
use Rattle.fault_sim.specs.Reports.{bit_faults, told}
use Rattle.fault_sim.proofs.report.test_net.Given as goal

-- what is left to add
abbrev pub invariant-loop-bit : goal.invariant-loop-bit
invariant-loop-bit l = record {
  netlist : l.sim.netlist ≡ l.initial.sim.netlist;
  words : l.sim.words ≡ l.initial.sim.words;
  left : l.found ++ told l.initial.sim.netlist l.initial.sim.words l.start l.good (bit_faults l.net l.bit (l.width - l.bit))
      ≡ l.initial.found ++ told l.initial.sim.netlist l.initial.sim.words l.start l.good (bit_faults l.net 0 l.width);
}
