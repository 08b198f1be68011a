use Rattle.std.proofs.Common.{ℕ, ◌≡◌, ◌≢◌, ◌<◌, Some, slice_get}
use Rattle.code_model.specs.declared.image.Place.{Place}
use Rattle.check_command.specs.Places.{AreApart}
use Rattle.check_command.proofs.places.is_alone_at.Given as goal

abbrev pub invariant-loop-other : goal.invariant-loop-other
invariant-loop-other l = (k : ℕ) → k < l.other → (q : Place) → slice_get l.places k ≡ Some q → k ≢ l.at → AreApart l.place q
