use Rattle.std.proofs.Common.{◌≡◌, ◌≤◌, ◌+◌, ◌*◌, drop}
use Rattle.bank_view.specs.Inner.Numbers.{total}
use Rattle.bank_view.proofs.views.total.Given as goal

abbrev pub invariant-loop-slot : goal.invariant-loop-slot
invariant-loop-slot l = record {
  few : l.at ≤ 6 * l.slot-index;
  left : l.at + total l.netlist (drop l.slot-index l.slots) ≡ total l.netlist l.slots;
}
