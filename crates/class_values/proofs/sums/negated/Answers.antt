use Rattle.std.proofs.Common.{arith}
use Rattle.class_values.proofs.Made.{if_found}
use Rattle.class_values.proofs.Multiplying.{negative_of_times}
use Rattle.class_values.proofs.sums.negated.Goals as goal

pub returns-clause-is : goal.returns-clause-is
returns-clause-is c =
    let low = c.if-width-lt1.false in
    let high = c.if-width-gt64.false in
    if_found c.multiplied.result _ _
    (λ k h. negative_of_times c.multiplied.new.table c.args.a c.in-Some.width c.mask.result k h (omega (arith, low), omega (arith, high)) c.mask.ensures)
    c.multiplied.ensures.is
