use Rattle.std.proofs.Common.{◌+◌, ◌*◌}
use Rattle.sym_expr.proofs.pool.Pool.+expr.Given as goal

-- parts come before their wholes
abbrev pub decreases-expr : goal.decreases-expr
decreases-expr l = 2 * l.id

abbrev pub decreases-boxed : goal.decreases-boxed
decreases-boxed l = 2 * l.id + 1
