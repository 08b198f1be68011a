use Rattle.rec_bits.specs.declared.operator.Op2.TheVariants.{Mul}
use Rattle.class_values.proofs.Made.{if_found}
use Rattle.class_values.proofs.Summing.{makes_by_literal}
use Rattle.class_values.proofs.products.by_literal.Goals as goal

pub returns-clause-is : goal.returns-clause-is
returns-clause-is c =
    if_found c.scaled.result _ _
    (λ k h. makes_by_literal c.args.table.now c.scaled.new.table c.scaled.ensures.grows Mul c.args.a c.args.b c.args.by.width c.args.by.number k c.requires h)
    c.scaled.ensures.is
