use Rattle.std.proofs.Common.{◌≡◌, ◌++◌, drop}
use Rattle.net_check.proofs.fixing.copy_storages.Given as goal

abbrev pub invariant-loop-storage : goal.invariant-loop-storage
invariant-loop-storage l = l.made ++ drop l.storage-index l.storages ≡ l.storages
