use Rattle.sym_run.proofs.Passing.{in_range}
use Rattle.sym_run.proofs.behind.range_of.Goals as goal

pub returns-in-Some : goal.returns-in-Some
returns-in-Some c = in_range c.args.table.now c.args.facts.now c.args.elements.now c.args.class c.in-Some.element c.in-Some.ensures
