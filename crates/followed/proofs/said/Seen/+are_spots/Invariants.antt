use Rattle.std.proofs.Common.{length}
use Rattle.followed.proofs.said.Seen.+are_spots.Given as goal

abbrev pub decreases-are_spots : goal.decreases-are_spots
decreases-are_spots l = length l.places.now
