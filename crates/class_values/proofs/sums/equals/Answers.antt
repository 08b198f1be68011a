use Rattle.std.proofs.Common.{[], subst}
use Rattle.class_values.specs.Inner.Numbers.{IsSized}
use Rattle.class_values.proofs.Made.{if_found}
use Rattle.class_values.proofs.Summing.{equal_shifted}
use Rattle.class_values.proofs.sums.equals.Goals as goal

pub returns-clause-is : goal.returns-clause-is
returns-clause-is c =
    let t0 = c.args.table.now in
    let l = c.in-Some.terms.last in
    let n = c.in-Some-literal.last.number in
    let last = subst (λ v. IsSized t0 [] l v n) c.if-last-of.false c.in-Some-literal.ensures in
    if_found c.term_equation-2.result _ _
    (λ k h. equal_shifted t0 c.term_equation-2.new.table c.term_equation-2.ensures.grows c.args.a c.in-Some.terms.first l c.args.of.width n c.args.of.number c.apply2.result k c.in-Some.ensures.makes last c.apply2.ensures c.requires.fits h)
    c.term_equation-2.ensures.is
