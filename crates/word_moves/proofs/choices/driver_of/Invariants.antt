use Rattle.std.proofs.Common.{◌≡◌, drop, slice_index}
use Rattle.word_moves.specs.Inner.Choices.{driver_target}
use Rattle.word_moves.proofs.choices.driver_of.Given as goal

abbrev pub invariant-loop-driver : goal.invariant-loop-driver
invariant-loop-driver l = driver_target (slice_index l.values) l.drivers ≡ driver_target (slice_index l.values) (drop l.driver-index l.drivers)
