use Rattle.std.proofs.Common.{◌≡◌, ◌++◌, drop}
use Rattle.std.specs.List.{flat_map}
use Rattle.bank_view.specs.Views.{numbering_of, slot_nets}
use Rattle.bank_view.proofs.views.all_nets.Given as goal

abbrev pub invariant-loop-slot : goal.invariant-loop-slot
invariant-loop-slot l =
    l.nets ++ flat_map (slot_nets l.netlist (numbering_of l.netlist)) (drop l.slot-index l.slots)
    ≡ flat_map (slot_nets l.netlist (numbering_of l.netlist)) l.slots
