use Rattle.std.proofs.Common.{◌≡◌, ◌≤◌, length, drop, map}
use Rattle.form_model.specs.Live.{live_before, regs_of}
use Rattle.word_fit.specs.Groups.{lives_of}
use Rattle.word_fit.specs.Steps.{step_operation}
use Rattle.live_sets.proofs.between.live_with.Given as goal

abbrev pub invariant-loop-index : goal.invariant-loop-index
invariant-loop-index l = record {
  within : l.index ≤ length l.groups;
  long : length l.lives ≡ length l.groups;
  live : regs_of l.live ≡ live_before (step_operation l.machine.pool.now l.machine.patterns.now) (drop l.index l.groups) (regs_of l.after);
  done : map regs_of (drop l.index l.lives) ≡ lives_of (step_operation l.machine.pool.now l.machine.patterns.now) (drop l.index l.groups) (regs_of l.after);
}

abbrev pub decreases-loop-index : goal.decreases-loop-index
decreases-loop-index l = l.index
