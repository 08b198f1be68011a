use Rattle.std.proofs.Common.{length}
use Rattle.mark_start.proofs.run.Start.+views.Given as goal

abbrev pub decreases-views : goal.decreases-views
decreases-views l = length l.spots.now
