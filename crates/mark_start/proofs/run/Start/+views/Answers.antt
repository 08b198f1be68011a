use Rattle.std.proofs.Common.{ℕ, List, subst}
use Rattle.net_model.specs.declared.states.State.{State}
use Rattle.mark_start.specs.declared.hints.Spot.{Spot}
use Rattle.mark_start.specs.Marked.{IsSpotShown, SpotsSeen}
use Rattle.std.proofs.lemmas.Result.{on_ok_weaker}
use Rattle.mark_start.proofs.Learning.{learnt_as, learnt_on}
use Rattle.mark_start.proofs.run.Start.+views.Goals as goal

pub returns : goal.returns
returns t c =
    let seg = c.args.self.now in
    let t0 = c.args.table.now in
    let r0 = c.args.run.now in
    let first = λ (s : State) (cells : List ℕ). IsSpotShown seg.pool.now c.in-Some.spot.now s cells in
    let second = λ (s : State) (cells : List ℕ). SpotsSeen seg.pool.now c.in-Some.rest.now s cells in
    on_ok_weaker c.views.result
    (λ h. learnt_as seg (λ s cells. first s cells × second s cells) (λ s cells. SpotsSeen seg.pool.now c.args.spots.now s cells) t0 c.views.new.table r0 c.views.new.run
    (λ s cells q. subst (λ (xs : List Spot). SpotsSeen seg.pool.now xs s cells) c.in-Some.ensures.cases.0 q)
    (learnt_on seg first second t0 c.view.new.table c.views.new.table r0 c.view.new.run c.views.new.run c.in_ok-view.ensures h)) c.views.ensures
