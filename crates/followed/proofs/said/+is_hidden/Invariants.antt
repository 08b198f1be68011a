use Rattle.std.proofs.Common.{length}
use Rattle.followed.proofs.said.+is_hidden.Given as goal

abbrev pub decreases-is_hidden : goal.decreases-is_hidden
decreases-is_hidden l = length l.hidden.now
