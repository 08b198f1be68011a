use Rattle.std.proofs.Common.{sym, subst, arith}
use Rattle.net_model.specs.Exprs.{ExprModel}
use Rattle.sym_expr.specs.Pools.{ExprFits, expr_of_id}
use Rattle.sym_expr.proofs.Fits.{width_fits}
use Rattle.route_trace.proofs.heads.make_slice.Goals as goal

pub overflow_add-hi : goal.overflow_add-hi
overflow_add-hi c =
    let fits = subst (λ (t : ExprModel). ExprFits t) (sym c.node.ensures.expr) c.node.ensures.fits in
    omega (arith, c.requires.high, (width_fits (expr_of_id c.args.pool.now c.args.of) fits).1)
