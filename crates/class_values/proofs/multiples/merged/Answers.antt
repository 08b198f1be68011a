use Rattle.std.proofs.Common.{subst}
use Rattle.class_values.specs.Inner.Sums.{IsMultiple}
use Rattle.class_values.proofs.Made.{if_found}
use Rattle.class_values.proofs.Multiplying.{multiples_sum}
use Rattle.class_values.proofs.multiples.merged.Goals as goal

pub returns-clause-is : goal.returns-clause-is
returns-clause-is c =
    let t0 = c.args.table.now in
    let x = c.in-Some.first in
    let y = c.in-Some-multiple_of.last in
    let w = x.times.width in
    let last = subst (λ v. IsMultiple t0 y.of v y.times.number c.args.b) c.if-last-width.false c.in-Some-multiple_of.ensures in
    if_found c.times.result _ _
    (λ k h. multiples_sum t0 c.times.new.table c.times.ensures.grows x.of y.of w x.times.number y.times.number c.apply2.result c.args.a c.args.b k
    c.in-Some.ensures last (c.are_same.ensures c.if-not-are_same.false) c.apply2.ensures h)
    c.times.ensures.is
