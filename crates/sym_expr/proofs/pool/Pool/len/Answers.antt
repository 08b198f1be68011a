use Rattle.std.proofs.Common.{ℕ, ◌<◌, List, length, subst}
use Rattle.sym_expr.specs.declared.pool.Node.{Node}
use Rattle.sym_expr.specs.Pools.{IsOneEach, ExprFits, expr_of_id}
use Rattle.sym_expr.proofs.Growth.{keeps}
use Rattle.sym_expr.proofs.OneEach.{one_each}
use Rattle.sym_expr.proofs.pool.Pool.len.Goals as goal

pub returns-clause-one_each : goal.returns-clause-one_each
returns-clause-one_each c = subst IsOneEach c.self.view_is (one_each _ c.self.invariant.pool)

pub returns-clause-fits : goal.returns-clause-fits
returns-clause-fits c =
    subst (λ (nodes : List Node). (id : ℕ) → id < length nodes → ExprFits (expr_of_id nodes id)) c.self.view_is c.self.invariant.pool.fits

pub returns-clause-keeps : goal.returns-clause-keeps
returns-clause-keeps c = λ older grows. keeps older c.args.self.now grows
