use Rattle.rec_bits.specs.declared.operator.Op2.TheVariants.{Eq}
use Rattle.class_values.proofs.Made.{if_found}
use Rattle.class_values.proofs.Summing.{makes_by_literal}
use Rattle.class_values.proofs.sums.equals_literal.Goals as goal

pub returns-clause-is : goal.returns-clause-is
returns-clause-is c =
    if_found c.equals.result _ _
    (λ k h. makes_by_literal c.args.table.now c.equals.new.table c.equals.ensures.grows Eq c.args.a c.args.b c.args.of.width c.args.of.number k c.requires h)
    c.equals.ensures.is
