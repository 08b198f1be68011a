use Rattle.std.proofs.Common.{◌≡◌, ◌++◌, drop, cond}
use Rattle.bank_view.specs.Views.{insert_slot}
use Rattle.bank_view.proofs.slot.inserted.Given as goal

abbrev pub invariant-loop-other : goal.invariant-loop-other
invariant-loop-other l =
    l.more ++ cond l.waits (insert_slot l.netlist l.slot (drop l.other-index l.slots)) (drop l.other-index l.slots)
    ≡ insert_slot l.netlist l.slot l.slots
