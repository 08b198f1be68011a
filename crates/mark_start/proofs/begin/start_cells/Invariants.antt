use Rattle.mark_start.specs.Runs.{AreStartCells}
use Rattle.mark_start.proofs.begin.start_cells.Given as goal

abbrev pub invariant-loop-a : goal.invariant-loop-a
invariant-loop-a l = AreStartCells l.spots l.is_machine l.a l.cells
