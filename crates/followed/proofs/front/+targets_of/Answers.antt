use Rattle.followed.proofs.Leads.{if_some, targets_here, targets_later}
use Rattle.followed.proofs.front.+targets_of.Goals as goal

pub returns-in-None : goal.returns-in-None
returns-in-None t c =
    if_some c.targets_of.result _ _
    (λ to h. targets_later c.in_ok-item.item.now c.in_ok-item.rest.now c.args.flow.now c.in_ok-item.ensures.cases.0 c.args.tree to.when_one to.when_zero c.in-None.ensures h) c.targets_of.ensures

pub returns-then-has_no_test : goal.returns-then-has_no_test
returns-then-has_no_test t c =
    targets_here c.in_ok-item.item.now c.in_ok-item.rest.now c.args.flow.now c.in_ok-item.ensures.cases.0 c.args.tree c.in-Some.found c.in-Some.ensures
    (c.has_no_test.ensures c.if-has_no_test.true)
