use Rattle.std.proofs.lemmas.Result.{IfOk-from_err}
use Rattle.transfer_set.proofs.row.shown_row.Goals as goal

pub returns-in_err-text-clause-entry : goal.returns-in_err-text-clause-entry
returns-in_err-text-clause-entry c = IfOk-from_err c.from_residual.result _ c.from_residual.ensures.0

pub returns-in_err-text-clause-shows : goal.returns-in_err-text-clause-shows
returns-in_err-text-clause-shows c = IfOk-from_err c.from_residual.result _ c.from_residual.ensures.0
