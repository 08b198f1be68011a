use Rattle.rec_bits.specs.declared.operator.Op2.TheVariants.{Eq}
use Rattle.class_values.specs.Values.{IsNumber}
use Rattle.class_values.proofs.Made.{if_found, some_of}
use Rattle.class_values.proofs.Summing.{listed_by}
use Rattle.class_values.proofs.sums.listed_equation.Goals as goal

pub returns-clause-is : goal.returns-clause-is
returns-clause-is c =
    let t1 = c.number.new.table in
    let w = c.args.of.width in
    let n = c.args.of.number in
    let right = c.in-Some.right in
    let is = some_of (IsNumber t1 w n) c.in_ok-right.field-0 right c.in-Some.is c.in_ok-right.ensures.is in
    if_found c.listed.result _ _ (λ k h. listed_by t1 c.listed.new.table c.listed.ensures.grows Eq c.args.a w n right k is h) c.listed.ensures.is
