use Rattle.std.proofs.Common.{length}
use Rattle.followed.proofs.plain.+is_only.Given as goal

abbrev pub decreases-is_only : goal.decreases-is_only
decreases-is_only l = length l.views.now
