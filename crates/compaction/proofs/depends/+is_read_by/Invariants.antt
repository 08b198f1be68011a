use Rattle.std.proofs.Common.{length}
use Rattle.compaction.proofs.depends.+is_read_by.Given as goal

abbrev pub decreases-is_read_by : goal.decreases-is_read_by
decreases-is_read_by l = length l.group.now
