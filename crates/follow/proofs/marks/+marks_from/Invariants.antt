use Rattle.std.proofs.Common.{length}
use Rattle.follow.proofs.marks.+marks_from.Given as goal

abbrev pub decreases-marks_from : goal.decreases-marks_from
decreases-marks_from l = length l.marks.now
