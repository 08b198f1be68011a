use Rattle.std.proofs.Common.{length}
use Rattle.word_fit.proofs.writing.+stores.Given as goal

abbrev pub decreases-stores : goal.decreases-stores
decreases-stores l = length l.group.now
