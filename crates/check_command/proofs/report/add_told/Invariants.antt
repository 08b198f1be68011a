use Rattle.std.proofs.Common.{length}
use Rattle.check_command.proofs.Telling.{Telling}
use Rattle.check_command.proofs.report.add_told.Given as goal

abbrev pub invariant-loop-line : goal.invariant-loop-line
invariant-loop-line l = Telling l.text l.initial.out.items l.rest l.out.items

abbrev pub decreases-loop-line : goal.decreases-loop-line
decreases-loop-line l = length l.rest
