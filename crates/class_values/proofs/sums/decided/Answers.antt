use Rattle.rec_bits.specs.declared.operator.Op2.TheVariants.{Sub}
use Rattle.class_values.specs.Inner.Sums.{Makes}
use Rattle.class_values.proofs.Made.{if_found, some_of}
use Rattle.class_values.proofs.Summing.{difference_decides}
use Rattle.class_values.proofs.sums.decided.Goals as goal

pub returns-clause-is : goal.returns-clause-is
returns-clause-is c =
    let t1 = c.difference.new.table in
    let rest = c.in-Some.rest in
    let of = c.in-Some-literal.of in
    let made = some_of (Makes t1 Sub c.args.a c.args.b) c.in_ok-rest.field-0 rest c.in-Some.is c.in_ok-rest.ensures.is in
    if_found c.number.result _ _
    (λ k is. difference_decides t1 c.number.new.table c.number.ensures.grows c.args.a c.args.b rest of.width of.number c.apply2.result k made c.in-Some-literal.ensures c.apply2.ensures is)
    c.number.ensures.is
