use Rattle.std.proofs.Common.{◌≡◌, [], replicate}
use Rattle.ctl_bdd.proofs.table.new_table.Given as goal

abbrev pub invariant-loop : goal.invariant-loop
invariant-loop l = l.table ≡ replicate l.counter []
