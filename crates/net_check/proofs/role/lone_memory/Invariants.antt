use Rattle.std.proofs.Common.{◌≡◌, None, drop}
use Rattle.net_check.specs.Inner.Roles.{lone_from}
use Rattle.net_check.proofs.role.lone_memory.Given as goal

abbrev pub invariant-loop-storage : goal.invariant-loop-storage
invariant-loop-storage l = lone_from None l.storages ≡ lone_from l.met (drop l.storage-index l.storages)
