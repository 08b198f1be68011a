use Rattle.std.proofs.Common.{◌≡◌, ◌+◌, ◌-◌, length}
use Rattle.src_eval.specs.Steps.{ahead_of}
use Rattle.src_eval.specs.Inner.Steps.{MachineFits}
use Rattle.src_eval.proofs.machine.Machine.count.Given as goal

-- the checkpoints that were passed, and those that are left of the ones that are asked for
abbrev pub invariant-loop-passed : goal.invariant-loop-passed
invariant-loop-passed l = record {
  kept : MachineFits l.self;
  left : length (ahead_of l.fn.self l.limit) ≡ l.passed + length (ahead_of l.self (l.limit - l.passed));
}
