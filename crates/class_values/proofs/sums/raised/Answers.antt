use Rattle.std.proofs.Common.{[], subst}
use Rattle.class_values.specs.Inner.Numbers.{IsSized}
use Rattle.class_values.proofs.Made.{if_found}
use Rattle.class_values.proofs.Summing.{twice_raised}
use Rattle.class_values.proofs.sums.raised.Goals as goal

pub returns-clause-is : goal.returns-clause-is
returns-clause-is c =
    let t0 = c.args.table.now in
    let p = c.in-Some.terms.first in
    let l = c.in-Some.terms.last in
    let n = c.in-Some-literal.last.number in
    let last = subst (λ v. IsSized t0 [] l v n) c.if-last-by.false c.in-Some-literal.ensures in
    if_found c.with_number.result _ _
    (λ k h. twice_raised t0 c.with_number.new.table c.with_number.ensures.grows c.args.a c.args.b p l c.args.by.width n c.args.by.number c.apply2.result k c.in-Some.ensures.makes last c.requires c.apply2.ensures h)
    c.with_number.ensures.is
