use Rattle.std.proofs.Common.{◌≡◌, ◌++◌, drop}
use Rattle.follow.proofs.places.list_of.Given as goal

abbrev pub invariant-loop-place : goal.invariant-loop-place
invariant-loop-place l = l.made ++ drop l.place-index l.places ≡ l.places
