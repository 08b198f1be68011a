use Rattle.sym_expr.specs.Pools.{expr_of_id}
use Rattle.sym_expr.proofs.Fits.{width_low, width_high}
use Rattle.sym_expr.proofs.pool.Pool.width.Goals as goal

pub returns-clause-low : goal.returns-clause-low
returns-clause-low c = width_low (expr_of_id c.args.self.now c.args.id) c.measured.result.width c.measured.ensures.is.width c.measured.ensures.fits

pub returns-clause-high : goal.returns-clause-high
returns-clause-high c = width_high (expr_of_id c.args.self.now c.args.id) c.measured.result.width c.measured.ensures.is.width c.measured.ensures.fits
