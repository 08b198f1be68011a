use Rattle.rec_bits.specs.declared.operator.Op2.TheVariants.{Eq}
use Rattle.class_values.proofs.Made.{if_found}
use Rattle.class_values.proofs.Summing.{turned}
use Rattle.class_values.proofs.sums.literal_equals.Goals as goal

pub returns-clause-is : goal.returns-clause-is
returns-clause-is c =
    if_found c.equals_literal.result _ _ (λ k h. turned c.equals_literal.new.table Eq c.args.a c.args.b k tt h) c.equals_literal.ensures.is
