use Rattle.class_values.proofs.Made.{if_found}
use Rattle.class_values.proofs.Summing.{listed_makes_of}
use Rattle.class_values.proofs.sums.listed_unary.Goals as goal

pub returns-clause-is : goal.returns-clause-is
returns-clause-is c =
    if_found c.class_of.result _ _ (λ k s. listed_makes_of c.args.table.now c.class_of.new.table c.class_of.ensures.grows c.args.op c.args.a k c.in-Some.ensures.0 s) c.class_of.ensures.stands
