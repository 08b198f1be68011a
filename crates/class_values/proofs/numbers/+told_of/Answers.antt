use Rattle.class_values.proofs.Numbering.{told_first, told_later}
use Rattle.class_values.proofs.numbers.+told_of.Goals as goal

pub returns-then-is_some : goal.returns-then-is_some
returns-then-is_some t c =
    told_first c.args.table.now c.args.facts.now c.in-Some.fact.now c.in-Some.rest.now c.args.class c.told_by-number.result c.in-Some.ensures.cases.0 c.told_by-number.ensures

pub returns : goal.returns
returns t c =
    told_later c.args.table.now c.args.facts.now c.in-Some.fact.now c.in-Some.rest.now c.args.class c.told_of.result c.in-Some.ensures.cases.0 c.told_of.ensures
