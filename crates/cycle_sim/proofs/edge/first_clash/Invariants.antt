use Rattle.std.proofs.Common.{◌≡◌, drop, slice_index}
use Rattle.cycle_sim.specs.Inner.Programs.{clash_by}
use Rattle.cycle_sim.proofs.edge.first_clash.Given as goal

abbrev pub invariant-loop-bus : goal.invariant-loop-bus
invariant-loop-bus l = clash_by (slice_index l.values) l.buses ≡ clash_by (slice_index l.values) (drop l.bus-index l.buses)
