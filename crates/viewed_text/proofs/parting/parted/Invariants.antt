use Rattle.std.proofs.Common.{length}
use Rattle.viewed_text.proofs.FirstDone.{Passed}
use Rattle.viewed_text.proofs.parting.parted.Given as goal

abbrev pub invariant-loop-line : goal.invariant-loop-line
invariant-loop-line l = Passed l.bytes l.rest

abbrev pub decreases-loop-line : goal.decreases-loop-line
decreases-loop-line l = length l.rest
