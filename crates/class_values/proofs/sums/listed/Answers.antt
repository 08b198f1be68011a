use Rattle.std.proofs.Common.{sym, ◌∙◌}
use Rattle.class_values.proofs.Made.{if_found}
use Rattle.class_values.proofs.Summing.{listed_makes}
use Rattle.class_values.proofs.sums.listed.Goals as goal

pub returns-clause-is : goal.returns-clause-is
returns-clause-is c =
    let x = c.in-Some.ensures in
    let y = c.in-Some-width.ensures in
    if_found c.class_of.result _ _
    (λ k s. listed_makes c.args.table.now c.class_of.new.table c.class_of.ensures.grows c.args.op c.args.a c.args.b k x.0 y.0 (sym x.1 ∙ c.if-left-right.false ∙ y.1) s)
    c.class_of.ensures.stands
