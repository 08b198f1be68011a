use Rattle.class_values.proofs.Made.{folded, if_found, zext_made}
use Rattle.class_values.proofs.values.zero_extended.Goals as goal

pub returns-in-Some-clause-is : goal.returns-in-Some-clause-is
returns-in-Some-clause-is c =
    let s = c.in-Some.ensures in
    if_found c.number.result _ _
    (λ k is. folded c.args.table.now c.number.new.table c.number.ensures.grows c.args.facts.now c.args.a c.args.width c.in-Some.x.number k (λ x. x) s.number is)
    c.number.ensures.is

pub returns-in-None-clause-is : goal.returns-in-None-clause-is
returns-in-None-clause-is c = if_found c.class_of.result _ _ (zext_made c.args.table.now c.class_of.new.table c.class_of.ensures.grows c.args.facts.now c.args.a c.args.width) c.class_of.ensures.stands
