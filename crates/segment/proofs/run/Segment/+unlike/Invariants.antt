use Rattle.std.proofs.Common.{length}
use Rattle.segment.proofs.run.Segment.+unlike.Given as goal

abbrev pub decreases-unlike : goal.decreases-unlike
decreases-unlike l = length l.hints.now
