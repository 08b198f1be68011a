use Rattle.std.proofs.Common.{◌≡◌, ◌+◌, ◌<◌, ◌^◌, drop}
use Rattle.rec_bits.specs.Counts.{capped}
use Rattle.self_test.specs.Cells.{all_operands}
use Rattle.self_test.specs.Inner.Values.{exprs_at}
use Rattle.self_test.proofs.cells.all_operands.Given as goal

abbrev pub invariant-loop-value : goal.invariant-loop-value
invariant-loop-value l = record {
  fits : l.count < 2 ^ 64;
  so_far : capped (all_operands (exprs_at l.pool l.values)) ≡ capped (l.count + all_operands (exprs_at l.pool (drop l.value-index l.values)));
}
