use Rattle.sym_run.proofs.Passing.{listed_at}
use Rattle.sym_run.proofs.behind.listed.Goals as goal

pub returns-then-are_same : goal.returns-then-are_same
returns-then-are_same c = listed_at c.args.table.now c.args.class c.args.elements.now c.loop-element.element-index _ c.loop-element-test.true (c.are_same.ensures c.if-are_same.true)
