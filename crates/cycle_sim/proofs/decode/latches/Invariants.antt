use Rattle.std.proofs.Common.{◌≡◌, ◌++◌, drop}
use Rattle.cycle_sim.specs.Inner.Decoding.{latches_by, source_in}
use Rattle.cycle_sim.proofs.decode.latches.Given as goal

abbrev pub invariant-loop-storage : goal.invariant-loop-storage
invariant-loop-storage l =
    latches_by (source_in l.sources) l.storages ≡ l.latches ++ latches_by (source_in l.sources) (drop l.storage-index l.storages)
