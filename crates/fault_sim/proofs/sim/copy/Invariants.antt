use Rattle.std.proofs.Common.{◌≡◌, ◌++◌, drop, take, length}
use Rattle.fault_sim.proofs.sim.copy.Given as goal

abbrev pub invariant-loop-place : goal.invariant-loop-place
invariant-loop-place l = record {
  long : length l.to ≡ length l.from;
  so_far : l.to ≡ take l.place l.from ++ drop l.place l.initial.to;
}
