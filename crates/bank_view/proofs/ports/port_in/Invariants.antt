use Rattle.std.proofs.Common.{◌≡◌, drop}
use Rattle.net_model.specs.Nets.{array_in}
use Rattle.bank_view.proofs.ports.port_in.Given as goal

abbrev pub invariant-loop-storage : goal.invariant-loop-storage
invariant-loop-storage l = array_in l.space l.storages ≡ array_in l.space (drop l.storage-index l.storages)
