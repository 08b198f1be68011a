use Rattle.std.proofs.Common.{◌<◌, subst}
use Rattle.class_values.proofs.Made.{if_found}
use Rattle.class_values.proofs.LowBits.{listed_is_low}
use Rattle.class_values.proofs.low.listed_low.Goals as goal

pub returns-clause-is : goal.returns-clause-is
returns-clause-is c =
    let x = c.in-Some.ensures in
    if_found c.class_of.result _ _
    (λ k s. listed_is_low c.args.table.now c.class_of.new.table c.class_of.ensures.grows c.args.a c.args.hi k x.0 (subst (λ w. c.args.hi < w) x.1 c.if-hi-width.false) s)
    c.class_of.ensures.stands
