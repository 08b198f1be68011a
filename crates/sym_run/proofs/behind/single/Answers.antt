use Rattle.sym_run.proofs.Passing.{in_single}
use Rattle.sym_run.proofs.behind.single.Goals as goal

pub returns : goal.returns
returns c = in_single c.args.table.now c.args.facts.now c.args.elements.now c.args.class c.in_ok-number.number c.in_ok-number.ensures
