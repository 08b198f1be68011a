use Rattle.std.proofs.Common.{length}
use Rattle.follow.proofs.marks.+label_at.Given as goal

abbrev pub decreases-label_at : goal.decreases-label_at
decreases-label_at l = length l.marks.now
