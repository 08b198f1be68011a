use Rattle.rec_bits.specs.declared.operator.Op1.TheVariants.{Neg}
use Rattle.class_values.specs.Inner.Sums.{MakesOf}
use Rattle.class_values.proofs.Made.{if_found, some_of}
use Rattle.class_values.proofs.Summing.{difference_made, makes_of_kept}
use Rattle.class_values.proofs.sums.difference.Goals as goal

pub returns-clause-is : goal.returns-clause-is
returns-clause-is c =
    let t1 = c.negative.new.table in
    let t2 = c.sum.new.table in
    let n = c.in-Some.negative in
    let minus = some_of (MakesOf t1 Neg c.args.b) c.in_ok-negative.field-0 n c.in-Some.is c.in_ok-negative.ensures.is in
    if_found c.sum.result _ _ (λ k s. difference_made t2 c.args.a c.args.b n k (makes_of_kept t1 t2 c.sum.ensures.grows Neg c.args.b n minus) s) c.sum.ensures.is
