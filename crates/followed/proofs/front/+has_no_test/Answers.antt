use Rattle.std.proofs.Common.{sym, subst, ◌∙◌}
use Rattle.followed.specs.Inner.Led.{IsTestIn}
use Rattle.followed.proofs.Leads.{none_more}
use Rattle.followed.proofs.Words.{none_of}
use Rattle.followed.proofs.front.+has_no_test.Goals as goal

pub returns : goal.returns
returns t c e =
    none_more c.in-Some.item.now c.in-Some.rest.now c.args.flow.now c.in-Some.ensures.cases.0 c.args.tree
    (subst (IsTestIn c.in-Some.item.now c.args.tree) (none_of c.test_in.result (sym c.is_some.ensures ∙ c.if-is_some.false)) c.test_in.ensures) (c.has_no_test.ensures e)
