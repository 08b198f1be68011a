use Rattle.std.proofs.Common.{◌≡◌, ◌<◌, length, drop, Some, sym, ◌∙◌, arith}
use Rattle.std.specs.Prelude.{slice_get}
use Rattle.std.proofs.lemmas.Option.{slice_get_within}
use Rattle.rec_bits.proofs.Booleans.{impossible}
use Rattle.rec_bits.proofs.Lists.{goes_first, fits_first}
use Rattle.net_model.specs.Nets.{held}
use Rattle.state_text.specs.Shown.{cell_lines}
use Rattle.state_text.proofs.Shown.{cell_next, no_more}
use Rattle.state_text.proofs.writing.put_cells.Goals as goal

pub returns-in_err-put_cell-clause-succeeds : goal.returns-in_err-put_cell-clause-succeeds
returns-in_err-put_cell-clause-succeeds c = λ h.
    let next = cell_next c.args.name.now c.loop-value.address (held c.args.sim.now.state c.args.space) c.in-Some.value (sym c.cell_in.ensures ∙ c.in-Some.is) in
    impossible (c.in_err-put_cell.ensures.succeeds (fits_first c.loop-value.out.items c.args.out.now.items _ _ (cell_lines c.args.name.now c.loop-value.address (drop c.loop-value.address (held c.args.sim.now.state c.args.space))) _ _ c.loop-value.invariant.text next (omega (arith, h, c.loop-value.invariant.room))))

pub overflow_add-address : goal.overflow_add-address
overflow_add-address c = omega (arith, slice_get_within (held c.args.sim.now.state c.args.space) c.loop-value.address c.in-Some.value (sym c.cell_in.ensures ∙ c.in-Some.is), c.requires)

pub loop-value-smaller : goal.loop-value-smaller
loop-value-smaller c =
    let lt : c.loop-value.address < length (held c.args.sim.now.state c.args.space) = slice_get_within (held c.args.sim.now.state c.args.space) c.loop-value.address c.in-Some.value (sym c.cell_in.ensures ∙ c.in-Some.is) in
    omega (arith, lt)

pub loop-value-preserved : goal.loop-value-preserved
loop-value-preserved c =
    let e : slice_get (held c.args.sim.now.state c.args.space) c.loop-value.address ≡ Some c.in-Some.value = sym c.cell_in.ensures ∙ c.in-Some.is in
    let next = cell_next c.args.name.now c.loop-value.address (held c.args.sim.now.state c.args.space) c.in-Some.value e in
    record {
      text = goes_first c.loop-value.out.items c.put_cell.new.out.items c.args.out.now.items _ _ (cell_lines c.args.name.now c.loop-value.address (drop c.loop-value.address (held c.args.sim.now.state c.args.space))) _ c.loop-value.invariant.text next c.in_ok-put_cell.ensures.text;
      room = omega (arith, c.loop-value.invariant.room, c.in_ok-put_cell.ensures.room);
      within = omega (arith, slice_get_within (held c.args.sim.now.state c.args.space) c.loop-value.address c.in-Some.value e);
    }

pub returns-clause-text : goal.returns-clause-text
returns-clause-text c = no_more c.args.name.now c.loop-value.out.items c.args.out.now.items _ c.loop-value.address (held c.args.sim.now.state c.args.space) (sym c.cell_in.ensures ∙ c.in_default.is) c.loop-value.invariant.text
