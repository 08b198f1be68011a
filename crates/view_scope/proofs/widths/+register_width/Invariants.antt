use Rattle.std.proofs.Common.{length}
use Rattle.view_scope.proofs.widths.+register_width.Given as goal

abbrev pub decreases-register_width : goal.decreases-register_width
decreases-register_width l = length l.storages.now
