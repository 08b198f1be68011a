use Rattle.std.proofs.Common.{◌≡◌, ◌++◌, drop, take, length, slice_index}
use Rattle.cycle_sim.specs.Inner.Programs.{regs_by}
use Rattle.cycle_sim.proofs.edge.clock_registers.Given as goal

abbrev pub invariant-loop-i : goal.invariant-loop-i
invariant-loop-i l = record {
  long : length l.regs ≡ length l.storages;
  so_far : regs_by (slice_index l.values) l.storages l.initial.regs ≡ take l.i l.regs ++ regs_by (slice_index l.values) (drop l.i l.storages) (drop l.i l.regs);
}
