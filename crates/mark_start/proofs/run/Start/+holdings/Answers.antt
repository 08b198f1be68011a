use Rattle.std.proofs.Common.{ℕ, List, subst}
use Rattle.net_model.specs.declared.states.State.{State}
use Rattle.mark_start.specs.declared.hints.Holding.{Holding}
use Rattle.mark_start.specs.Marked.{AllHeld, IsHeld}
use Rattle.std.proofs.lemmas.Result.{on_ok_weaker}
use Rattle.mark_start.proofs.Learning.{learnt_as, learnt_on}
use Rattle.mark_start.proofs.run.Start.+holdings.Goals as goal

pub returns : goal.returns
returns t c =
    let seg = c.args.self.now in
    let t0 = c.args.table.now in
    let r0 = c.args.run.now in
    let first = λ (s : State) (cells : List ℕ). IsHeld seg.pool.now c.in-Some.holding.now s cells in
    let second = λ (s : State) (cells : List ℕ). AllHeld seg.pool.now c.in-Some.rest.now s cells in
    on_ok_weaker c.holdings.result
    (λ h. learnt_as seg (λ s cells. first s cells × second s cells) (λ s cells. AllHeld seg.pool.now c.args.holdings.now s cells) t0 c.holdings.new.table r0 c.holdings.new.run
    (λ s cells q. subst (λ (xs : List Holding). AllHeld seg.pool.now xs s cells) c.in-Some.ensures.cases.0 q)
    (learnt_on seg first second t0 c.holding.new.table c.holdings.new.table r0 c.holding.new.run c.holdings.new.run c.in_ok-holding.ensures h)) c.holdings.ensures
