use Rattle.std.proofs.Common.{arith}
use Rattle.rec_bits.proofs.Masks.{cat_fits_low}
use Rattle.rec_bits.proofs.operator.cat.Goals as goal

pub overflow_add-result : goal.overflow_add-result
overflow_add-result c =
    omega (arith, cat_fits_low c.args.a c.args.low_width c.args.b c.requires.high c.requires.left c.requires.right)
