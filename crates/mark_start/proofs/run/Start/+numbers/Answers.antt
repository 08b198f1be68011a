use Rattle.std.proofs.Common.{ℕ, List, subst}
use Rattle.net_model.specs.declared.states.State.{State}
use Rattle.mark_start.specs.declared.hints.Numbered.{Numbered}
use Rattle.mark_start.specs.Marked.{AllNumbered, IsNumbered}
use Rattle.std.proofs.lemmas.Result.{on_ok_weaker}
use Rattle.mark_start.proofs.Learning.{learnt_as, learnt_on}
use Rattle.mark_start.proofs.run.Start.+numbers.Goals as goal

pub returns : goal.returns
returns t c =
    let seg = c.args.self.now in
    let t0 = c.args.table.now in
    let r0 = c.args.run.now in
    let first = λ (s : State) (cells : List ℕ). IsNumbered c.in-Some.one.now cells in
    let second = λ (s : State) (cells : List ℕ). AllNumbered c.in-Some.rest.now cells in
    on_ok_weaker c.numbers.result
    (λ h. learnt_as seg (λ s cells. first s cells × second s cells) (λ s cells. AllNumbered c.args.numbers.now cells) t0 c.numbers.new.table r0 c.numbers.new.run
    (λ s cells q. subst (λ (xs : List Numbered). AllNumbered xs cells) c.in-Some.ensures.cases.0 q)
    (learnt_on seg first second t0 c.numbered.new.table c.numbers.new.table r0 c.numbered.new.run c.numbers.new.run c.in_ok-numbered.ensures h)) c.numbers.ensures
