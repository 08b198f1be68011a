use Rattle.std.proofs.Common.{length}
use Rattle.sym_run.proofs.writes.+are_puts_same.Given as goal

abbrev pub decreases-are_puts_same : goal.decreases-are_puts_same
decreases-are_puts_same l = length l.near.now
