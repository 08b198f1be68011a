use Rattle.std.proofs.Common.{length}
use Rattle.image_text.proofs.Progress.{Progress}
use Rattle.image_text.proofs.reading.read_lines.Given as goal

abbrev pub invariant-loop-line : goal.invariant-loop-line
invariant-loop-line l = Progress l.limits l.bytes l.rest l.front

abbrev pub decreases-loop-line : goal.decreases-loop-line
decreases-loop-line l = length l.rest
