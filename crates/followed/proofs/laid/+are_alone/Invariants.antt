use Rattle.std.proofs.Common.{length}
use Rattle.followed.proofs.laid.+are_alone.Given as goal

abbrev pub decreases-are_alone : goal.decreases-are_alone
decreases-are_alone l = length l.places.now
