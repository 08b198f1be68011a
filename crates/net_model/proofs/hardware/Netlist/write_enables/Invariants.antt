use Rattle.std.proofs.Common.{◌≡◌, ◌++◌, drop}
use Rattle.net_model.specs.Control.{storage_enables, write_enables}
use Rattle.rec_bits.specs.Faults.{gather}
use Rattle.net_model.proofs.hardware.Netlist.write_enables.Given as goal

abbrev pub invariant-loop-storage : goal.invariant-loop-storage
invariant-loop-storage l = l.nets ++ gather storage_enables (drop l.storage-index l.self.storages) ≡ write_enables l.self
