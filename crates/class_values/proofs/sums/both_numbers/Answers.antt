use Rattle.std.proofs.Common.{[], refl, subst}
use Rattle.rec_bits.specs.declared.operator.Op2.TheVariants.{Add}
use Rattle.class_values.specs.Inner.Numbers.{IsSized}
use Rattle.class_values.proofs.Made.{if_found}
use Rattle.class_values.proofs.Summing.{number_raised}
use Rattle.class_values.proofs.sums.both_numbers.Goals as goal

pub returns-clause-is : goal.returns-clause-is
returns-clause-is c =
    let t0 = c.args.table.now in
    let n = c.args.own.number in
    let own = subst (λ v. IsSized t0 [] c.args.base v n) c.if-own-by.false c.requires.own in
    if_found c.number.result _ _
    (λ k is. number_raised t0 c.number.new.table c.number.ensures.grows Add c.args.base c.args.by.width n c.args.by.number c.apply2.result k refl own c.apply2.ensures is)
    c.number.ensures.is
