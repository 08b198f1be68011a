use Rattle.std.proofs.Common.{length}
use Rattle.compaction.proofs.depends.+shares_destination.Given as goal

abbrev pub decreases-shares_destination : goal.decreases-shares_destination
decreases-shares_destination l = length l.group.now
