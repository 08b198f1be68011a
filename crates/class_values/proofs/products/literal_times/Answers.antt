use Rattle.rec_bits.specs.declared.operator.Op2.TheVariants.{Mul}
use Rattle.class_values.proofs.Made.{if_found}
use Rattle.class_values.proofs.Summing.{turned}
use Rattle.class_values.proofs.products.literal_times.Goals as goal

pub returns-clause-is : goal.returns-clause-is
returns-clause-is c =
    if_found c.by_literal.result _ _ (λ k h. turned c.by_literal.new.table Mul c.args.a c.args.b k tt h) c.by_literal.ensures.is
