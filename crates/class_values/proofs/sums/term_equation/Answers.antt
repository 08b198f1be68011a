use Rattle.class_values.proofs.Made.{if_found}
use Rattle.class_values.proofs.Summing.{equal_turned}
use Rattle.class_values.proofs.sums.term_equation.Goals as goal

pub returns-clause-is : goal.returns-clause-is
returns-clause-is c =
    let t1 = c.listed_equation-2.new.table in
    if_found c.listed_equation-2.result _ _
    (λ k h. equal_turned c.args.table.now t1 c.listed_equation-2.ensures.grows c.args.a c.in-Some.opposite c.args.of.width c.args.of.number c.apply1.result k c.in-Some.ensures c.apply1.ensures c.requires.fits h)
    c.listed_equation-2.ensures.is
