use Rattle.rec_bits.specs.declared.operator.Op2.TheVariants.{Add}
use Rattle.class_values.specs.Values.{IsNumber}
use Rattle.class_values.proofs.Made.{if_found, some_of}
use Rattle.class_values.proofs.Summing.{listed_by}
use Rattle.class_values.proofs.sums.with_number.Goals as goal

pub returns-clause-is : goal.returns-clause-is
returns-clause-is c =
    let t1 = c.number.new.table in
    let w = c.args.by.width in
    let n = c.args.by.number in
    let last = c.in-Some-2.last in
    let is = some_of (IsNumber t1 w n) c.in_ok-last.field-0 last c.in-Some-2.is c.in_ok-last.ensures.is in
    if_found c.listed.result _ _ (λ k h. listed_by t1 c.listed.new.table c.listed.ensures.grows Add c.args.base w n last k is h) c.listed.ensures.is
