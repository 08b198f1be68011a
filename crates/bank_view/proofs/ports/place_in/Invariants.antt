use Rattle.std.proofs.Common.{◌≡◌, ◌+◌, drop}
use Rattle.net_model.specs.Nets.{place_in}
use Rattle.bank_view.proofs.ports.place_in.Given as goal

abbrev pub invariant-loop-storage : goal.invariant-loop-storage
invariant-loop-storage l = record {
  counted : l.place ≡ l.storage-index;
  so_far : place_in l.space l.storages ≡ l.place + place_in l.space (drop l.storage-index l.storages);
}
