use Rattle.std.proofs.Common.{length}
use Rattle.mark_start.proofs.begin.+are_viewless.Given as goal

abbrev pub decreases-are_viewless : goal.decreases-are_viewless
decreases-are_viewless l = length l.spots.now
