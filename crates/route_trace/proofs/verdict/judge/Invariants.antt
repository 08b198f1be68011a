use Rattle.std.proofs.Common.{◌≤◌, take}
use Rattle.std.specs.List.{AllByRecursion}
use Rattle.net_model.specs.Exprs.{size_of}
use Rattle.sym_expr.specs.Pools.{expr_of_id}
use Rattle.transfer_set.specs.declared.route.Route.{Route}
use Rattle.route_trace.proofs.verdict.judge.Given as goal

abbrev pub invariant-loop-route : goal.invariant-loop-route
invariant-loop-route l = AllByRecursion (λ (route : Route). size_of (expr_of_id l.pool route.expr) ≤ 255) (take l.route-index l.routes)
