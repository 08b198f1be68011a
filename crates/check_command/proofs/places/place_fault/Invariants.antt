use Rattle.std.proofs.Common.{ℕ, ◌<◌}
use Rattle.check_command.specs.Places.{IsRightPlace}
use Rattle.check_command.proofs.places.place_fault.Given as goal

abbrev pub invariant-loop-at : goal.invariant-loop-at
invariant-loop-at l = (k : ℕ) → k < l.at → IsRightPlace l.vars l.image l.size k
