use Rattle.std.proofs.Common.{arith}
use Rattle.std.proofs.lemmas.Nat.{pow_below}
use Rattle.class_values.proofs.Made.{if_found}
use Rattle.class_values.proofs.Multiplying.{power_shifted}
use Rattle.class_values.proofs.products.shifted_by.Goals as goal

pub apply2-requires-clause-left : goal.apply2-requires-clause-left
apply2-requires-clause-left c = pow_below 0 c.args.by.width c.requires.is_width.0

pub returns-clause-is : goal.returns-clause-is
returns-clause-is c =
    let within = c.if-by-from.false in
    if_found c.scaled.result _ _
    (λ k h. power_shifted c.args.table.now c.scaled.new.table c.scaled.ensures.grows c.args.a c.args.b c.args.by.width c.args.by.number c.apply2.result k c.requires (omega (arith, within)) c.apply2.ensures h)
    c.scaled.ensures.is
