use Rattle.std.proofs.Common.{sym, subst, slice_get}
use Rattle.std.specs.List.{All}
use Rattle.asm_words.specs.Inner.Given.{SliceFits, row_slices}
use Rattle.asm_words.proofs.Fitting.{once_fit, rows_fit}
use Rattle.asm_words.proofs.Found.{slices_end, slices_more}
use Rattle.asm_words.proofs.showing.slices_of.Goals as goal

pub loop-number-preserved : goal.loop-number-preserved
loop-number-preserved c =
    slices_more (λ n. row_slices c.args.pool.now (slice_get c.args.patterns.now.rows n)) c.args.numbers.now c.loop-number.number-index c.loop-number.found c.loop-number.invariant
    c.add_transfer.new.found c.loop-number-test.true c.in_ok-add_transfer.ensures

pub returns-clause-found : goal.returns-clause-found
returns-clause-found c =
    slices_end (λ n. row_slices c.args.pool.now (slice_get c.args.patterns.now.rows n)) c.args.numbers.now c.loop-number.number-index c.loop-number.found c.loop-number.invariant c.loop-number-test.false

pub returns-clause-fits : goal.returns-clause-fits
returns-clause-fits c =
    let found = slices_end (λ n. row_slices c.args.pool.now (slice_get c.args.patterns.now.rows n)) c.args.numbers.now c.loop-number.number-index c.loop-number.found c.loop-number.invariant c.loop-number-test.false in
    subst (All SliceFits) (sym found) (once_fit _ (rows_fit c.args.pool.now c.args.patterns.now c.requires c.len.ensures.fits c.args.numbers.now))
