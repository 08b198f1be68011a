use Rattle.std.proofs.Common.{length}
use Rattle.sym_run.proofs.writes.+leave_same_behind.Given as goal

abbrev pub decreases-leave_same_behind : goal.decreases-leave_same_behind
decreases-leave_same_behind l = length l.puts.now
