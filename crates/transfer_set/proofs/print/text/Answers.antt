use Rattle.std.proofs.lemmas.Result.{IfOk-from_err}
use Rattle.std.proofs.Common.{◌∙◌, ap, length}
use Rattle.transfer_set.specs.PatternsText.{text_of}
use Rattle.transfer_set.proofs.Printing.{text_whole}
use Rattle.transfer_set.proofs.print.text.Goals as goal

pub returns : goal.returns
returns c pool are =
    text_whole c.args.checked.now.netlist pool c.args.rows.now c.in_ok-lines.lines.items
    c.add_whole.new.text.items (c.in_ok-lines.ensures pool are)
    (rw c.new-text.ensures.items at c.in_ok-add_whole.ensures ∙ ap (text_of (length c.args.rows.now)) c.deref.ensures.value)

pub returns-in_err-add_whole : goal.returns-in_err-add_whole
returns-in_err-add_whole c = IfOk-from_err c.from_residual-in_err-add_whole.result _ c.from_residual-in_err-add_whole.ensures.0

pub returns-in_err-lines : goal.returns-in_err-lines
returns-in_err-lines c = IfOk-from_err c.from_residual.result _ c.from_residual.ensures.0
