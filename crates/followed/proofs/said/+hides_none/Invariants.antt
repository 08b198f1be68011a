use Rattle.std.proofs.Common.{length}
use Rattle.followed.proofs.said.+hides_none.Given as goal

abbrev pub decreases-hides_none : goal.decreases-hides_none
decreases-hides_none l = length l.hidden.now
