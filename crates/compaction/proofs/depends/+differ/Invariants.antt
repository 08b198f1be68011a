use Rattle.std.proofs.Common.{length}
use Rattle.compaction.proofs.depends.+differ.Given as goal

abbrev pub decreases-differ : goal.decreases-differ
decreases-differ l = length l.group.now
