use Rattle.std.proofs.Common.{length}
use Rattle.segment.proofs.run.Segment.+unlike_holding.Given as goal

abbrev pub decreases-unlike_holding : goal.decreases-unlike_holding
decreases-unlike_holding l = length l.holdings.now
