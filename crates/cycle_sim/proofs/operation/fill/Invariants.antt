use Rattle.std.proofs.Common.{◌≡◌, drop, length}
use Rattle.cycle_sim.specs.Inner.Operations.{filled}
use Rattle.cycle_sim.proofs.operation.fill.Given as goal

abbrev pub invariant-loop-inlet : goal.invariant-loop-inlet
invariant-loop-inlet l = record {
  long : length l.values ≡ length l.initial.values;
  so_far : filled l.regs l.word l.inlets l.initial.values ≡ filled l.regs l.word (drop l.inlet-index l.inlets) l.values;
}
