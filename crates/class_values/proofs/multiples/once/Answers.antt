use Rattle.std.proofs.Common.{sym, arith}
use Rattle.class_values.proofs.Multiplying.{once_is}
use Rattle.class_values.proofs.multiples.once.Goals as goal

pub returns : goal.returns
returns c =
    let own = c.in_ok-width.ensures in
    let low = c.if-width-lt1.false in
    let high = c.if-width-gt64.false in
    once_is c.args.table.now c.args.class c.in_ok-width.width own.0 (sym own.1) (omega (arith, low), omega (arith, high))
