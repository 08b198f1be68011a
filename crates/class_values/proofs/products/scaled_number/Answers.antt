use Rattle.std.proofs.Common.{[], refl, subst}
use Rattle.rec_bits.specs.declared.operator.Op2.TheVariants.{Mul}
use Rattle.class_values.specs.Inner.Numbers.{IsSized}
use Rattle.class_values.proofs.Made.{if_found}
use Rattle.class_values.proofs.Summing.{number_raised}
use Rattle.class_values.proofs.products.scaled_number.Goals as goal

pub returns-clause-is : goal.returns-clause-is
returns-clause-is c =
    let t0 = c.args.table.now in
    let n = c.args.of.number in
    let of = subst (λ v. IsSized t0 [] c.args.a v n) c.if-of-by.false c.requires.of in
    if_found c.number.result _ _
    (λ k is. number_raised t0 c.number.new.table c.number.ensures.grows Mul c.args.a c.args.by.width n c.args.by.number c.apply2.result k refl of c.apply2.ensures is)
    c.number.ensures.is
