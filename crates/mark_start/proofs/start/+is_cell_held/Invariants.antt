use Rattle.std.proofs.Common.{length}
use Rattle.mark_start.proofs.start.+is_cell_held.Given as goal

abbrev pub decreases-is_cell_held : goal.decreases-is_cell_held
decreases-is_cell_held l = length l.holdings.now
