use Rattle.std.proofs.Common.{length}
use Rattle.mark_start.proofs.gather.+end_of.Given as goal

abbrev pub decreases-end_of : goal.decreases-end_of
decreases-end_of l = length l.spots.now
