use Rattle.sym_expr.specs.Pools.{expr_of_id}
use Rattle.sym_expr.proofs.Fits.{slice_high}
use Rattle.check_command.proofs.end_word.+plain_address.Goals as goal

pub slice-requires-clause-high : goal.slice-requires-clause-high
slice-requires-clause-high t c = slice_high (expr_of_id c.args.pool.now c.in-Slice.a) c.in-Slice.hi c.in-Slice.lo c.in-Slice.ensures.fits
