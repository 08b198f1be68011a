use Rattle.std.proofs.Common.{length}
use Rattle.followed.proofs.laid.+misplaced.Given as goal

abbrev pub decreases-misplaced : goal.decreases-misplaced
decreases-misplaced l = length l.places.now
