use Rattle.std.proofs.Common.{◌≡◌, ◌<◌, length}
use Rattle.bdd_bench.proofs.equal_nodes.Given as goal

abbrev pub invariant-loop : goal.invariant-loop
invariant-loop l = record { bits : l.book.bits ≡ 48; within : l.set < length l.book.nodes }
