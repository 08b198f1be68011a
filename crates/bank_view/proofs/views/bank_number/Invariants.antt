use Rattle.std.proofs.Common.{◌≡◌, ◌≤◌, ◌+◌, ◌*◌, drop}
use Rattle.bank_view.specs.Views.{before, is_bank_write}
use Rattle.bank_view.proofs.views.bank_number.Given as goal

abbrev pub invariant-loop-slot : goal.invariant-loop-slot
invariant-loop-slot l = record {
  few : l.at ≤ 6 * l.slot-index;
  left : l.at + before l.netlist is_bank_write (drop l.slot-index l.slots) ≡ before l.netlist is_bank_write l.slots;
}
