use Rattle.std.proofs.Common.{◌+◌, ◌*◌}
use Rattle.net_model.specs.Exprs.{size_of, model_of_expr}
use Rattle.mode_set.proofs.copies.+copying.Given as goal

-- parts are smaller than their wholes
abbrev pub decreases-copy_expr : goal.decreases-copy_expr
decreases-copy_expr l = 2 * size_of (model_of_expr l.expr.now)

abbrev pub decreases-copy_operand : goal.decreases-copy_operand
decreases-copy_operand l = 2 * size_of (model_of_expr l.expr.now) + 1
