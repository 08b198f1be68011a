use Rattle.std.proofs.Common.{length}
use Rattle.word_fit.proofs.writing.+writes.Given as goal

abbrev pub decreases-writes : goal.decreases-writes
decreases-writes l = length l.group.now
