use Rattle.std.proofs.Common.{drop, take, arith, sym, ap, ◌∙◌}
use Rattle.rec_bits.proofs.Booleans.{impossible}
use Rattle.rec_bits.proofs.Lists.{goes_first, fits_first}
use Rattle.checkpoint_watch.specs.Texts.{changes, store_from}
use Rattle.checkpoint_watch.proofs.Changing.{next_changes, more_cells}
use Rattle.checkpoint_watch.proofs.line.put_changes.Goals as goal

pub returns-in_err-put_cells-clause-succeeds : goal.returns-in_err-put_cells-clause-succeeds
returns-in_err-put_cells-clause-succeeds c = λ h.
    let cells = c.args.sim.now.state.cells in
    let inv = c.loop-var.invariant in
    let vars = drop c.loop-var.var-index c.args.vars.now in
    let next = next_changes c.args.vars.now c.loop-var.var-index c.loop-var.at c.var-item.result c.loop-var.olds.now c.split_at.result.0.now c.split_at.result.1.now cells c.loop-var-test.true c.var-item.is (sym inv.whole)
    (c.split_at.ensures.front ∙ ap (λ n. take n c.loop-var.olds.now) c.cells_in.ensures) (c.split_at.ensures.back ∙ ap (λ n. drop n c.loop-var.olds.now) c.cells_in.ensures) in
    impossible (c.in_err-put_cells.ensures.succeeds (fits_first c.loop-var.line.items c.args.line.now.items _ _ (changes vars c.loop-var.olds.now (store_from vars c.loop-var.at cells)) _ _ inv.text next (omega (arith, h, inv.room))))

pub loop-var-preserved : goal.loop-var-preserved
loop-var-preserved c =
    let cells = c.args.sim.now.state.cells in
    let inv = c.loop-var.invariant in
    let vars = drop c.loop-var.var-index c.args.vars.now in
    let next = next_changes c.args.vars.now c.loop-var.var-index c.loop-var.at c.var-item.result c.loop-var.olds.now c.split_at.result.0.now c.split_at.result.1.now cells c.loop-var-test.true c.var-item.is (sym inv.whole)
    (c.split_at.ensures.front ∙ ap (λ n. take n c.loop-var.olds.now) c.cells_in.ensures) (c.split_at.ensures.back ∙ ap (λ n. drop n c.loop-var.olds.now) c.cells_in.ensures) in
    let count = more_cells c.args.vars.now c.loop-var.var-index c.var-item.result c.loop-var-test.true c.var-item.is in
    record {
      text = goes_first c.loop-var.line.items c.put_cells.new.line.items c.args.line.now.items _ _ (changes vars c.loop-var.olds.now (store_from vars c.loop-var.at cells)) _ inv.text next c.in_ok-put_cells.ensures.text;
      whole = omega (arith, inv.whole, count, c.split_at.ensures.front_len, c.split_at.ensures.back_len, c.cells_in.ensures);
      stands = omega (arith, inv.stands, c.split_at.ensures.front_len, c.split_at.ensures.back_len);
      room = omega (arith, inv.room, c.in_ok-put_cells.ensures.room);
    }
