use Rattle.std.proofs.Common.{sym, subst, arith}
use Rattle.class_values.specs.Inner.Sums.{IsMultiple}
use Rattle.class_values.proofs.Multiplying.{negative_is}
use Rattle.class_values.proofs.multiples.negative_of.Goals as goal

pub returns : goal.returns
returns c =
    let t = c.args.table.now in
    let a = c.in_ok-of.of in
    let w = c.in_ok-width.width in
    let low = c.if-width-lt1.false in
    let high = c.if-width-gt64.false in
    subst (λ n. IsMultiple t a w n c.args.class) (sym c.mask.ensures)
    (negative_is t a c.args.class w c.in_ok-of.ensures (sym c.in_ok-width.ensures.1) (omega (arith, low), omega (arith, high)))
