use Rattle.std.proofs.Common.{◌≡◌, ◌*◌, ◌<◌, length}
use Rattle.bdd_bench.proofs.carry_nodes.Given as goal

abbrev pub invariant-loop-i : goal.invariant-loop-i
invariant-loop-i l = record { bits : l.book.bits ≡ 2 * l.width; within : l.carry < length l.book.nodes }
