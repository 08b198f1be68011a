use Rattle.std.proofs.Common.{length}
use Rattle.followed.proofs.said.+are_arrays.Given as goal

abbrev pub decreases-are_arrays : goal.decreases-are_arrays
decreases-are_arrays l = length l.vars.now
