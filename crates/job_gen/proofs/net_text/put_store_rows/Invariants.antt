use Rattle.std.proofs.Common.{◌≡◌, ◌++◌}
use Rattle.job_gen.specs.Each.{each}
use Rattle.job_gen.specs.NetText.{store_row}
use Rattle.job_gen.proofs.net_text.put_store_rows.Given as goal

abbrev pub invariant-loop-k : goal.invariant-loop-k
invariant-loop-k l = l.out.items ≡ l.initial.out.items ++ each store_row l.k
