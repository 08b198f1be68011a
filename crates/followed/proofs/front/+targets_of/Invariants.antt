use Rattle.std.proofs.Common.{length}
use Rattle.followed.proofs.front.+targets_of.Given as goal

abbrev pub decreases-targets_of : goal.decreases-targets_of
decreases-targets_of l = length l.flow.now
