use Rattle.std.proofs.Common.{◌+◌, ◌∙◌, ℕ, List}
use Rattle.std.proofs.lemmas.List.{at_drop_all}
use Rattle.rec_bits.specs.Counts.{capped}
use Rattle.self_test.specs.Cells.{all_operands}
use Rattle.self_test.specs.Inner.Values.{exprs_at}
use Rattle.self_test.proofs.Counting.{summed}
use Rattle.self_test.proofs.cells.all_operands.Goals as goal

pub returns : goal.returns
returns c =
    summed _ _ c.loop-value.invariant.fits
    (c.loop-value.invariant.so_far
    ∙ at_drop_all (λ (ids : List ℕ). capped (c.loop-value.count + all_operands (exprs_at c.args.pool.now ids))) c.args.values.now c.loop-value.value-index c.loop-value-test.false)
