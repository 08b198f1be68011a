use Rattle.std.proofs.lemmas.Result.{IfOk-from_err}
use Rattle.transfer_set.proofs.texts.add_place.Goals as goal

pub returns-in_err-add_bytes : goal.returns-in_err-add_bytes
returns-in_err-add_bytes c = IfOk-from_err c.from_residual.result _ c.from_residual.ensures.0

pub returns-in_err-add_term : goal.returns-in_err-add_term
returns-in_err-add_term c = IfOk-from_err c.from_residual-in_err-add_term.result _ c.from_residual-in_err-add_term.ensures.0
