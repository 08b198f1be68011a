use Rattle.std.proofs.Common.{length}
use Rattle.followed.proofs.front.+hint_at.Given as goal

abbrev pub decreases-hint_at : goal.decreases-hint_at
decreases-hint_at l = length l.hints.now
