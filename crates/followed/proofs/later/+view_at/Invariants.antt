use Rattle.std.proofs.Common.{length}
use Rattle.followed.proofs.later.+view_at.Given as goal

abbrev pub decreases-view_at : goal.decreases-view_at
decreases-view_at l = length l.views.now
