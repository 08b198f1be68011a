use Rattle.std.proofs.Common.{length}
use Rattle.followed.proofs.said.Seen.+first_odd.Given as goal

abbrev pub decreases-first_odd : goal.decreases-first_odd
decreases-first_odd l = length l.hints.now
