use Rattle.std.proofs.Common.{◌≡◌, ◌≤◌, ◌+◌, ◌*◌, drop}
use Rattle.bank_view.specs.Views.{before, is_memory_write}
use Rattle.bank_view.proofs.views.memory_number.Given as goal

abbrev pub invariant-loop-slot : goal.invariant-loop-slot
invariant-loop-slot l = record {
  few : l.at ≤ 6 * l.slot-index;
  left : l.at + before l.netlist is_memory_write (drop l.slot-index l.slots) ≡ before l.netlist is_memory_write l.slots;
}
