use Rattle.std.proofs.Common.{◌≡◌, ◌≤◌, ◌*◌, ◌++◌, drop}
use Rattle.bank_view.specs.Inner.Numbers.{numbers_from}
use Rattle.bank_view.proofs.views.net_numbers.Given as goal

abbrev pub invariant-loop-slot : goal.invariant-loop-slot
invariant-loop-slot l = record {
  few : l.at ≤ 6 * l.slot-index;
  numbers : l.numbers ++ numbers_from l.netlist l.at (drop l.slot-index l.slots) ≡ numbers_from l.netlist 0 l.slots;
}
