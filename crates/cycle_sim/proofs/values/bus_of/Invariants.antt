use Rattle.std.proofs.Common.{◌≡◌, drop, slice_index}
use Rattle.net_model.specs.Value.{bus_value}
use Rattle.cycle_sim.proofs.values.bus_of.Given as goal

abbrev pub invariant-loop-driver : goal.invariant-loop-driver
invariant-loop-driver l =
    bus_value (slice_index l.values) l.drivers ≡ bus_value (slice_index l.values) (drop l.driver-index l.drivers)
