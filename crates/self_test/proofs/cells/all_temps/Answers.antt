use Rattle.std.proofs.Common.{◌∙◌, ℕ, List, max}
use Rattle.std.proofs.lemmas.List.{at_drop_all}
use Rattle.rec_bits.specs.Counts.{capped}
use Rattle.self_test.specs.Inner.Values.{greatest_inner, exprs_at}
use Rattle.self_test.proofs.Counting.{greatest}
use Rattle.self_test.proofs.cells.all_temps.Goals as goal

pub returns : goal.returns
returns c =
    greatest _ _ c.loop-value.invariant.fits
    (c.loop-value.invariant.so_far
    ∙ at_drop_all (λ (ids : List ℕ). capped (max c.loop-value.most (greatest_inner c.args.width (exprs_at c.args.pool.now ids)))) c.args.values.now c.loop-value.value-index c.loop-value-test.false)
