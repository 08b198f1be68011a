use Rattle.std.proofs.Common.{length}
use Rattle.followed.proofs.said.+first_low.Given as goal

abbrev pub decreases-first_low : goal.decreases-first_low
decreases-first_low l = length l.hints.now
