use Rattle.std.proofs.Common.{length}
use Rattle.check_command.proofs.hints.views_from.Given as goal

abbrev pub invariant-loop-view : goal.invariant-loop-view
invariant-loop-view l = Unit {0}

abbrev pub decreases-loop-view : goal.decreases-loop-view
decreases-loop-view l = length l.rest
