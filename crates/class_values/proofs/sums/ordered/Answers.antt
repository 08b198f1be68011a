use Rattle.class_values.proofs.Made.{if_found}
use Rattle.class_values.proofs.Summing.{turned}
use Rattle.class_values.proofs.sums.ordered.Goals as goal

pub returns-then-comes_before-clause-is : goal.returns-then-comes_before-clause-is
returns-then-comes_before-clause-is c =
    if_found c.listed.result _ _ (λ k h. turned c.listed.new.table c.args.op c.args.a c.args.b k (c.commutes.ensures c.if-commutes.true) h) c.listed.ensures.is
