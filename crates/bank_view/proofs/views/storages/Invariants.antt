use Rattle.std.proofs.Common.{◌≡◌, ◌++◌, drop}
use Rattle.bank_view.specs.Inner.Numbers.{joined_from}
use Rattle.bank_view.proofs.views.storages.Given as goal

abbrev pub invariant-loop-number : goal.invariant-loop-number
invariant-loop-number l =
    l.made ++ joined_from l.netlist l.number (drop l.number l.storage-items) ≡ joined_from l.netlist 0 l.storage-items
