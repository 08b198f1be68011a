use Rattle.std.proofs.Common.{◌≡◌, ◌++◌, drop}
use Rattle.net_model.specs.CheckedRules.{storage_file_addrs}
use Rattle.rec_bits.specs.Faults.{gather}
use Rattle.net_model.proofs.hardware.Netlist.file_writes.Given as goal

abbrev pub invariant-loop-storage : goal.invariant-loop-storage
invariant-loop-storage l = l.nets ++ gather storage_file_addrs (drop l.storage-index l.self.storages) ≡ gather storage_file_addrs l.self.storages
