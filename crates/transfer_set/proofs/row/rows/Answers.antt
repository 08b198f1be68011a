use Rattle.std.proofs.lemmas.Result.{IfOk-from_err}
use Rattle.transfer_set.proofs.row.rows.Goals as goal

pub returns-in_err-push-clause-entries : goal.returns-in_err-push-clause-entries
returns-in_err-push-clause-entries c = IfOk-from_err c.from_residual-in_err-push.result _ c.from_residual-in_err-push.ensures.0

pub returns-in_err-push-clause-shows : goal.returns-in_err-push-clause-shows
returns-in_err-push-clause-shows c = IfOk-from_err c.from_residual-in_err-push.result _ c.from_residual-in_err-push.ensures.0

pub returns-in_err-shown_row-clause-entries : goal.returns-in_err-shown_row-clause-entries
returns-in_err-shown_row-clause-entries c = IfOk-from_err c.from_residual.result _ c.from_residual.ensures.0

pub returns-in_err-shown_row-clause-shows : goal.returns-in_err-shown_row-clause-shows
returns-in_err-shown_row-clause-shows c = IfOk-from_err c.from_residual.result _ c.from_residual.ensures.0
