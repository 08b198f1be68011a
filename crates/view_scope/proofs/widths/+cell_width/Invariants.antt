use Rattle.std.proofs.Common.{length}
use Rattle.view_scope.proofs.widths.+cell_width.Given as goal

abbrev pub decreases-cell_width : goal.decreases-cell_width
decreases-cell_width l = length l.storages.now
