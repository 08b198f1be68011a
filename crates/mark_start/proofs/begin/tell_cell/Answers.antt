use Rattle.mark_start.proofs.Places.{cell_arrays, cell_told}
use Rattle.mark_start.proofs.begin.tell_cell.Goals as goal

pub returns-then-is_unknown-clause-told : goal.returns-then-is_unknown-clause-told
returns-then-is_unknown-clause-told c = cell_told c.args.known.now c.args.address c.args.class c.set.new.self (c.is_unknown.ensures c.if-is_unknown.true) c.set.ensures

pub returns-then-is_unknown-clause-arrays : goal.returns-then-is_unknown-clause-arrays
returns-then-is_unknown-clause-arrays c = cell_arrays c.args.known.now.cells c.set.new.self c.args.address c.args.class (c.is_unknown.ensures c.if-is_unknown.true) c.set.ensures
