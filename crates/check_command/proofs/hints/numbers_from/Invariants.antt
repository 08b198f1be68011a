use Rattle.std.proofs.Common.{length}
use Rattle.check_command.proofs.hints.numbers_from.Given as goal

abbrev pub invariant-loop-remark : goal.invariant-loop-remark
invariant-loop-remark l = Unit {0}

abbrev pub decreases-loop-remark : goal.decreases-loop-remark
decreases-loop-remark l = length l.rest
