use Rattle.std.proofs.Common.{◌≡◌, ◌++◌, drop}
use Rattle.fault_sim.specs.Reports.{faults_from, findings, told}
use Rattle.fault_sim.proofs.report.findings.Given as goal

-- what is left to add
abbrev pub invariant-loop-place : goal.invariant-loop-place
invariant-loop-place l = record {
  netlist : l.sim.netlist ≡ l.initial.sim.netlist;
  words : l.sim.words ≡ l.initial.sim.words;
  left : l.found ++ told l.initial.sim.netlist l.initial.sim.words l.start l.good (faults_from l.place (drop l.place l.nets))
      ≡ findings l.initial.sim.netlist l.initial.sim.words l.start l.good;
}
