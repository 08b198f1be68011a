use Rattle.std.proofs.lemmas.Result.{IfOk-from_err}
use Rattle.route_trace.proofs.tracer.Tracer.routes_under.Goals as goal

pub returns-in_err-add_all-clause-table : goal.returns-in_err-add_all-clause-table
returns-in_err-add_all-clause-table c = IfOk-from_err c.from_residual.result _ c.from_residual.ensures.0

pub returns-in_err-add_all-clause-exprs : goal.returns-in_err-add_all-clause-exprs
returns-in_err-add_all-clause-exprs c = IfOk-from_err c.from_residual.result _ c.from_residual.ensures.0
