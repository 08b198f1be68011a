use Rattle.std.proofs.Common.{length}
use Rattle.followed.proofs.laid.+lie_within.Given as goal

abbrev pub decreases-lie_within : goal.decreases-lie_within
decreases-lie_within l = length l.places.now
