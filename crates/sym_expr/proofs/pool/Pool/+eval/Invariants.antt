use Rattle.sym_expr.proofs.pool.Pool.+eval.Given as goal

-- parts come before their wholes
abbrev pub decreases-eval : goal.decreases-eval
decreases-eval l = l.id
