use Rattle.std.proofs.lemmas.Result.{IfOk-from_err}
use Rattle.explain_command.proofs.heading.add_named.Goals as goal

pub returns-in_err-add_bytes : goal.returns-in_err-add_bytes
returns-in_err-add_bytes c = IfOk-from_err c.from_residual.result _ c.from_residual.ensures.0
