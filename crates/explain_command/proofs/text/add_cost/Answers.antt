use Rattle.std.proofs.lemmas.Result.{IfOk-from_err}
use Rattle.explain_command.proofs.text.add_cost.Goals as goal

pub returns-in_err-add_bytes : goal.returns-in_err-add_bytes
returns-in_err-add_bytes c = IfOk-from_err c.from_residual.result _ c.from_residual.ensures.0

pub returns-in_err-add_number : goal.returns-in_err-add_number
returns-in_err-add_number c = IfOk-from_err c.from_residual-in_err-add_number.result _ c.from_residual-in_err-add_number.ensures.0
