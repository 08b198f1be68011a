use Rattle.std.proofs.Common.{◌≡◌, ◌-◌, ◌++◌}
use Rattle.test_run.specs.Starts.{cells_from}
use Rattle.test_run.proofs.starting.cells.Given as goal

abbrev pub invariant-loop-address : goal.invariant-loop-address
invariant-loop-address l = l.cells ++ cells_from l.width l.address (l.size - l.address) ≡ cells_from l.width 0 l.size
