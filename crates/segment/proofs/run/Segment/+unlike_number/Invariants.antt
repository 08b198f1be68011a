use Rattle.std.proofs.Common.{length}
use Rattle.segment.proofs.run.Segment.+unlike_number.Given as goal

abbrev pub decreases-unlike_number : goal.decreases-unlike_number
decreases-unlike_number l = length l.numbers.now
