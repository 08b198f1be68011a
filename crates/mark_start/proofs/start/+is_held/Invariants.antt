use Rattle.std.proofs.Common.{length}
use Rattle.mark_start.proofs.start.+is_held.Given as goal

abbrev pub decreases-is_held : goal.decreases-is_held
decreases-is_held l = length l.holdings.now
