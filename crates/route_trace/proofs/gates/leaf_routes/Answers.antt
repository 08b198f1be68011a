use Rattle.std.proofs.lemmas.Result.{IfOk-from_err}
use Rattle.route_trace.proofs.gates.leaf_routes.Goals as goal

pub returns-in_err-add_leaf-clause-table : goal.returns-in_err-add_leaf-clause-table
returns-in_err-add_leaf-clause-table c = IfOk-from_err c.from_residual.result _ c.from_residual.ensures.0

pub returns-in_err-add_leaf-clause-exprs : goal.returns-in_err-add_leaf-clause-exprs
returns-in_err-add_leaf-clause-exprs c = IfOk-from_err c.from_residual.result _ c.from_residual.ensures.0
