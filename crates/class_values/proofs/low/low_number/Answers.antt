use Rattle.class_values.proofs.Made.{if_found}
use Rattle.class_values.proofs.LowBits.{number_is_low}
use Rattle.class_values.proofs.low.low_number.Goals as goal

pub returns-clause-is : goal.returns-clause-is
returns-clause-is c =
    if_found c.number.result _ _
    (λ k is. number_is_low c.args.table.now c.number.new.table c.number.ensures.grows c.args.a c.args.hi c.args.of.width c.args.of.number c.slice.result k c.requires c.if-hi-of.false c.slice.ensures is)
    c.number.ensures.is
