use Rattle.std.proofs.lemmas.Result.{IfOk-from_err}
use Rattle.explain_command.proofs.heading.add_head.Goals as goal

pub returns-in_err-add_job_line : goal.returns-in_err-add_job_line
returns-in_err-add_job_line c = IfOk-from_err c.from_residual.result _ c.from_residual.ensures.0

pub returns-in_err-add_aim : goal.returns-in_err-add_aim
returns-in_err-add_aim c = IfOk-from_err c.from_residual-in_err-add_aim.result _ c.from_residual-in_err-add_aim.ensures.0
