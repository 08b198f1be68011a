use Rattle.followed.proofs.Leads.{hint_further, if_some}
use Rattle.followed.proofs.front.+hint_at.Goals as goal

pub returns : goal.returns
returns t c = if_some c.hint_at.result _ _ (λ x h. hint_further c.in_ok-hint.hint.now c.in_ok-hint.rest.now c.args.hints.now c.in_ok-hint.ensures.cases.0 c.args.address x.now h) c.hint_at.ensures
