use Rattle.mark_start.proofs.Places.{var_arrays, var_told}
use Rattle.mark_start.proofs.begin.tell_var.Goals as goal

pub returns-then-is_kept_cell-clause-told : goal.returns-then-is_kept_cell-clause-told
returns-then-is_kept_cell-clause-told c = var_told c.args.known.now c.args.address c.args.class c.set.new.self (c.is_kept_cell.ensures c.if-is_kept_cell.true) c.set.ensures

pub returns-then-is_kept_cell-clause-arrays : goal.returns-then-is_kept_cell-clause-arrays
returns-then-is_kept_cell-clause-arrays c = var_arrays c.args.known.now.cells c.set.new.self c.args.address c.args.class (c.is_kept_cell.ensures c.if-is_kept_cell.true) c.set.ensures
