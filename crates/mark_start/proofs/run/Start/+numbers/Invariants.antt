use Rattle.std.proofs.Common.{length}
use Rattle.mark_start.proofs.run.Start.+numbers.Given as goal

abbrev pub decreases-numbers : goal.decreases-numbers
decreases-numbers l = length l.numbers.now
