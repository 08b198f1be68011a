use Rattle.std.proofs.Common.{length}
use Rattle.view_parts.proofs.part.+cells_named.Given as goal

abbrev pub decreases-cells_named : goal.decreases-cells_named
decreases-cells_named l = length l.storages.now
