use Rattle.std.proofs.Common.{ap, arith, length}
use Rattle.rec_bits.proofs.Booleans.{impossible}
use Rattle.checkpoint_watch.specs.Texts.{trace_entry, store_from}
use Rattle.checkpoint_watch.proofs.Rooms.{line_short}
use Rattle.checkpoint_watch.proofs.Lines.{entry_fits}
use Rattle.checkpoint_watch.proofs.writer.LineWriter.set_line.Goals as goal

pub unreachable-requires : goal.unreachable-requires
unreachable-requires c =
    let w = c.args.self.now in
    let entry = trace_entry c.args.seen.cycle c.args.seen.label (store_from w.vars.now w.address c.args.sim.now.state.cells) in
    let short = line_short w.vars.now c.as_slice-last_cells.result.now entry (entry_fits w.vars.now c.args.seen.cycle c.args.seen.label w.address c.args.sim.now.state.cells (omega arith) c.requires.label c.requires.few c.requires.values) in
    impossible (c.in-Err.ensures.succeeds (omega (arith, short, ap length c.clear.ensures.items, c.clear.ensures.capacity, w.room)))
