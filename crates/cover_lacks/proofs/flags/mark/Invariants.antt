use Rattle.cover_lacks.specs.Inner.Flags.{Marked}
use Rattle.cover_lacks.proofs.flags.mark.Given as goal

abbrev pub invariant-loop-number : goal.invariant-loop-number
invariant-loop-number l = Marked l.initial.flags.items l.flags.items l.numbers l.number-index
