use Rattle.std.proofs.Common.{length}
use Rattle.view_scope.proofs.fitting.+cell_spot.Given as goal

abbrev pub decreases-cell_spot : goal.decreases-cell_spot
decreases-cell_spot l = length l.storages.now
