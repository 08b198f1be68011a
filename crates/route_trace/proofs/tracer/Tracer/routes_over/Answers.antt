use Rattle.std.proofs.lemmas.Result.{IfOk-from_err}
use Rattle.route_trace.proofs.tracer.Tracer.routes_over.Goals as goal

pub returns-in_err-add_pairs-clause-table : goal.returns-in_err-add_pairs-clause-table
returns-in_err-add_pairs-clause-table c = IfOk-from_err c.from_residual.result _ c.from_residual.ensures.0

pub returns-in_err-add_pairs-clause-exprs : goal.returns-in_err-add_pairs-clause-exprs
returns-in_err-add_pairs-clause-exprs c = IfOk-from_err c.from_residual.result _ c.from_residual.ensures.0
