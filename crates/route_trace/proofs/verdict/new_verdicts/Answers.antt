use Rattle.std.proofs.lemmas.Result.{IfOk-from_err}
use Rattle.route_trace.proofs.verdict.new_verdicts.Goals as goal

pub returns-in_err-vec : goal.returns-in_err-vec
returns-in_err-vec c = IfOk-from_err c.from_residual.result _ c.from_residual.ensures.0
