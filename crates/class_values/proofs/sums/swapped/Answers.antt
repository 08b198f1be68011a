use Rattle.rec_bits.specs.declared.operator.Op2.TheVariants.{Add}
use Rattle.class_values.proofs.Made.{if_found}
use Rattle.class_values.proofs.Summing.{turned}
use Rattle.class_values.proofs.sums.swapped.Goals as goal

pub returns-clause-is : goal.returns-clause-is
returns-clause-is c =
    if_found c.with_literal.result _ _ (λ k h. turned c.with_literal.new.table Add c.args.a c.args.b k tt h) c.with_literal.ensures.is
