use Rattle.std.proofs.Common.{sym, ◌∙◌}
use Rattle.sym_run.proofs.Cells.{file_known}
use Rattle.class_values.proofs.Made.{if_known}
use Rattle.sym_run.proofs.eval.file_cell.Goals as goal

pub returns : goal.returns
returns c =
    if_known c.of_width.result _ _ (λ k is. file_known c.args.table.now c.args.facts.now c.args.known.now c.args.addr c.in_ok-address.address c.args.width c.in_ok-class.class k c.in_ok-address.ensures (sym c.in_file.ensures ∙ c.in_ok-class.was) is) c.of_width.ensures
