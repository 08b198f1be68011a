use Rattle.std.proofs.Common.{◌≡◌, ◌++◌, drop}
use Rattle.bank_view.specs.Views.{kept_from}
use Rattle.bank_view.proofs.slot.kept.Given as goal

abbrev pub invariant-loop-net : goal.invariant-loop-net
invariant-loop-net l = record {
  number : l.number ≡ l.net-index;
  slots : l.slots ++ kept_from l.number (drop l.net-index l.nets) ≡ kept_from 0 l.nets;
}
