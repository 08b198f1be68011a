use Rattle.std.proofs.Common.{◌≡◌, length}
use Rattle.cycle_sim.specs.Inner.Operations.{AreReady, run_of}
use Rattle.cycle_sim.proofs.operation.run.Given as goal

abbrev pub invariant-loop-instruction : goal.invariant-loop-instruction
invariant-loop-instruction l = record {
  long : length l.values ≡ length l.initial.values;
  ready : AreReady (length l.values) l.rest;
  so_far : run_of l.state l.instructions l.initial.values ≡ run_of l.state l.rest l.values;
}

abbrev pub decreases-loop-instruction : goal.decreases-loop-instruction
decreases-loop-instruction l = length l.rest
