use Rattle.class_values.proofs.Made.{if_known}
use Rattle.sym_run.proofs.Passing.{passed_apart, passed_same}
use Rattle.sym_run.proofs.behind.passed.Goals as goal

pub returns-then-are_same-clause-is : goal.returns-then-are_same-clause-is
returns-then-are_same-clause-is c =
    if_known c.of_width.result _ _ (λ k is. passed_same c.args.facts.now c.args.elements.now c.args.put c.args.spot.at c.args.spot.width c.args.old c.args.table.now k (c.are_same.ensures c.if-are_same.true) is) c.of_width.ensures

pub returns-then-are_apart-clause-is : goal.returns-then-are_apart-clause-is
returns-then-are_apart-clause-is c =
    passed_apart c.args.facts.now c.args.elements.now c.args.put c.args.spot.at c.args.spot.width c.args.old c.args.table.now (c.are_apart.ensures c.if-are_apart.true)
