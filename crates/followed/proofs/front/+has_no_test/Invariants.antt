use Rattle.std.proofs.Common.{length}
use Rattle.followed.proofs.front.+has_no_test.Given as goal

abbrev pub decreases-has_no_test : goal.decreases-has_no_test
decreases-has_no_test l = length l.flow.now
