use Rattle.std.proofs.Common.{drop, length, take, arith}
use Rattle.rec_bits.proofs.Booleans.{impossible}
use Rattle.rec_bits.proofs.Lists.{goes_first, fits_first}
use Rattle.checkpoint_watch.specs.Texts.{changes_from}
use Rattle.checkpoint_watch.proofs.Changing.{next_in_memory}
use Rattle.checkpoint_watch.proofs.line.put_cells.Goals as goal

pub returns-in_err-put_change-clause-succeeds : goal.returns-in_err-put_change-clause-succeeds
returns-in_err-put_change-clause-succeeds c = λ h.
    let cells = c.args.sim.now.state.cells in
    let left = changes_from c.args.var.now c.loop-index.index (drop c.loop-index.index c.args.olds.now) (drop c.loop-index.index (take (length c.args.olds.now) (drop c.args.address cells))) in
    let next = next_in_memory c.args.var.now c.loop-index.index c.args.address c.value_at.result c.args.olds.now cells c.loop-index-test.true c.requires.within c.value_at.ensures in
    impossible (c.in_err-put_change.ensures.succeeds (fits_first c.loop-index.line.items c.args.line.now.items _ _ left _ _ c.loop-index.invariant.text next (omega (arith, h, c.loop-index.invariant.room))))

pub loop-index-preserved : goal.loop-index-preserved
loop-index-preserved c =
    let cells = c.args.sim.now.state.cells in
    let left = changes_from c.args.var.now c.loop-index.index (drop c.loop-index.index c.args.olds.now) (drop c.loop-index.index (take (length c.args.olds.now) (drop c.args.address cells))) in
    let next = next_in_memory c.args.var.now c.loop-index.index c.args.address c.value_at.result c.args.olds.now cells c.loop-index-test.true c.requires.within c.value_at.ensures in
    record {
      text = goes_first c.loop-index.line.items c.put_change.new.line.items c.args.line.now.items _ _ left _ c.loop-index.invariant.text next c.in_ok-put_change.ensures.text;
      room = omega (arith, c.loop-index.invariant.room, c.in_ok-put_change.ensures.room);
    }
