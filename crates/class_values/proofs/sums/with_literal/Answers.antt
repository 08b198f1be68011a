use Rattle.rec_bits.specs.declared.operator.Op2.TheVariants.{Add}
use Rattle.class_values.proofs.Made.{if_found}
use Rattle.class_values.proofs.Summing.{makes_by_literal}
use Rattle.class_values.proofs.sums.with_literal.Goals as goal

pub returns-clause-is : goal.returns-clause-is
returns-clause-is c =
    if_found c.with_number.result _ _
    (λ k h. makes_by_literal c.args.table.now c.with_number.new.table c.with_number.ensures.grows Add c.args.a c.args.b c.args.by.width c.args.by.number k c.requires h)
    c.with_number.ensures.is
