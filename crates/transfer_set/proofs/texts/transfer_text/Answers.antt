use Rattle.std.proofs.lemmas.Result.{IfOk-from_err}
use Rattle.transfer_set.proofs.texts.transfer_text.Goals as goal

pub returns-in_err-add_transfer : goal.returns-in_err-add_transfer
returns-in_err-add_transfer c = IfOk-from_err c.from_residual.result _ c.from_residual.ensures.0
