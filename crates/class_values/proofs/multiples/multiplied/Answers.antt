use Rattle.std.proofs.Common.{subst}
use Rattle.class_values.specs.Inner.Sums.{IsMultiple}
use Rattle.class_values.proofs.Made.{if_found}
use Rattle.class_values.proofs.Multiplying.{multiple_times}
use Rattle.class_values.proofs.multiples.multiplied.Goals as goal

pub returns-clause-is : goal.returns-clause-is
returns-clause-is c =
    let t0 = c.args.table.now in
    let x = c.in-Some.own in
    let own = subst (λ v. IsMultiple t0 x.of v x.times.number c.args.a) c.if-own-by.false c.in-Some.ensures in
    if_found c.times.result _ _
    (λ k h. multiple_times t0 c.times.new.table c.times.ensures.grows x.of c.args.by.width x.times.number c.args.by.number c.apply2.result c.args.a k own c.apply2.ensures h)
    c.times.ensures.is
