use Rattle.std.proofs.Common.{length}
use Rattle.followed.proofs.plain.+odd_from.Given as goal

abbrev pub decreases-odd_from : goal.decreases-odd_from
decreases-odd_from l = length l.views.now
