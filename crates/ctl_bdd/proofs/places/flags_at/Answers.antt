use Rattle.std.proofs.lemmas.Result.{IfOk-from_err}
use Rattle.ctl_bdd.proofs.places.flags_at.Goals as goal

pub returns-in_err-flags-clause-long : goal.returns-in_err-flags-clause-long
returns-in_err-flags-clause-long c = IfOk-from_err c.from_residual.result _ c.from_residual.ensures.0

pub returns-in_err-flags-clause-flags : goal.returns-in_err-flags-clause-flags
returns-in_err-flags-clause-flags c = IfOk-from_err c.from_residual.result _ c.from_residual.ensures.0
