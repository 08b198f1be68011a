use Rattle.std.proofs.lemmas.Result.{IfOk-from_err}
use Rattle.explain_command.proofs.heading.add_job_line.Goals as goal

pub returns-in_err-add_number_of_job : goal.returns-in_err-add_number_of_job
returns-in_err-add_number_of_job c = IfOk-from_err c.from_residual.result _ c.from_residual.ensures.0

pub returns-in_err-add_place : goal.returns-in_err-add_place
returns-in_err-add_place c = IfOk-from_err c.from_residual-in_err-add_place.result _ c.from_residual-in_err-add_place.ensures.0

pub returns-in_err-add_bytes : goal.returns-in_err-add_bytes
returns-in_err-add_bytes c = IfOk-from_err c.from_residual-in_err-add_bytes.result _ c.from_residual-in_err-add_bytes.ensures.0

pub returns-in_err-add_role : goal.returns-in_err-add_role
returns-in_err-add_role c = IfOk-from_err c.from_residual-in_err-add_role.result _ c.from_residual-in_err-add_role.ensures.0
