use Rattle.std.proofs.Common.{length}
use Rattle.sym_run.proofs.behind.+all_passed.Given as goal

abbrev pub decreases-all_passed : goal.decreases-all_passed
decreases-all_passed l = length l.puts.now
