use Rattle.std.proofs.Common.{◌≡◌, true}
use Rattle.sym_expr.specs.Pools.{expr_of_id}
use Rattle.form_model.specs.Shapes.{shows_below}
use Rattle.form_set.proofs.shapes.shows_each.Given as goal

abbrev pub invariant-loop-value : goal.invariant-loop-value
invariant-loop-value l = shows_below (expr_of_id l.pool l.expr) l.value ≡ true
