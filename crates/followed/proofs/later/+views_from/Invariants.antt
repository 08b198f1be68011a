use Rattle.std.proofs.Common.{length}
use Rattle.followed.proofs.later.+views_from.Given as goal

abbrev pub decreases-views_from : goal.decreases-views_from
decreases-views_from l = length l.views.now
