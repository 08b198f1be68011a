use Rattle.std.proofs.Common.{◌+◌, ◌*◌}
use Rattle.net_model.specs.Exprs.{model_of_expr, size_of}
use Rattle.check_command.proofs.interning.+put.Given as goal

-- parts are smaller than their wholes
abbrev pub decreases-put_expr : goal.decreases-put_expr
decreases-put_expr l = 3 * size_of (model_of_expr l.expr.now) + 1

abbrev pub decreases-node_of : goal.decreases-node_of
decreases-node_of l = 3 * size_of (model_of_expr l.expr.now)

abbrev pub decreases-put_both : goal.decreases-put_both
decreases-put_both l = 3 * (size_of (model_of_expr l.a.now) + size_of (model_of_expr l.b.now)) + 2
