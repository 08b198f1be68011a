use Rattle.std.proofs.Common.{◌≡◌, ◌<◌, ◌^◌, drop, max}
use Rattle.rec_bits.specs.Counts.{capped}
use Rattle.self_test.specs.Inner.Values.{greatest_inner, exprs_at}
use Rattle.self_test.proofs.cells.all_temps.Given as goal

abbrev pub invariant-loop-value : goal.invariant-loop-value
invariant-loop-value l = record {
  fits : l.most < 2 ^ 64;
  so_far : capped (greatest_inner l.width (exprs_at l.pool l.values)) ≡ capped (max l.most (greatest_inner l.width (exprs_at l.pool (drop l.value-index l.values))));
}
