use Rattle.std.proofs.Common.{length}
use Rattle.mark_start.proofs.run.Start.+holdings.Given as goal

abbrev pub decreases-holdings : goal.decreases-holdings
decreases-holdings l = length l.holdings.now
