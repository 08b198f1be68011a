use Rattle.std.proofs.Common.{◌≡◌, ◌++◌, drop}
use Rattle.cycle_sim.specs.Inner.Decoding.{drivers_by, source_in}
use Rattle.cycle_sim.proofs.decode.drivers_of.Given as goal

abbrev pub invariant-loop-driver : goal.invariant-loop-driver
invariant-loop-driver l =
    drivers_by (source_in l.sources) l.drivers ≡ l.list ++ drivers_by (source_in l.sources) (drop l.driver-index l.drivers)
