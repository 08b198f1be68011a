use Rattle.std.proofs.Common.{length}
use Rattle.compaction.proofs.depends.+reads_across.Given as goal

abbrev pub decreases-reads_across : goal.decreases-reads_across
decreases-reads_across l = length l.readers.now
