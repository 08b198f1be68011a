use Rattle.std.proofs.Common.{◌-◌, length}
use Rattle.least_costs.specs.Tables.{AreEmpty}
use Rattle.least_costs.proofs.table.empty_lists.Given as goal

abbrev pub invariant-loop-alloc : goal.invariant-loop-alloc
invariant-loop-alloc g l = AreEmpty l.lists.items

abbrev pub decreases-loop-alloc : goal.decreases-loop-alloc
decreases-loop-alloc g l = l.count - length l.lists.items
