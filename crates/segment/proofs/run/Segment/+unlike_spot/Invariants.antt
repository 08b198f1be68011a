use Rattle.std.proofs.Common.{length}
use Rattle.segment.proofs.run.Segment.+unlike_spot.Given as goal

abbrev pub decreases-unlike_spot : goal.decreases-unlike_spot
decreases-unlike_spot l = length l.spots.now
