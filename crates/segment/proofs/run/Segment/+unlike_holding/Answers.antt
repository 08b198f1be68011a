use Rattle.std.proofs.Common.{List, is_none, subst, sym}
use Rattle.std.proofs.lemmas.Result.{IfOk-weaker}
use Rattle.mark_start.specs.declared.hints.Holding.{Holding}
use Rattle.mark_start.specs.Marked.{AllHeld, IsHeld}
use Rattle.segment.specs.Runs.{IsAgreed}
use Rattle.segment.proofs.Agreement.{agreed_on}
use Rattle.segment.proofs.run.Segment.+unlike_holding.Goals as goal

pub returns : goal.returns
returns t c =
    let run = c.args.run.now in
    let pool = c.args.self.now.start.pool.now in
    let t0 = c.args.table.now in
    let t1 = c.holding_agrees.new.table in
    let t2 = c.unlike_holding.new.table in
    IfOk-weaker c.unlike_holding.result _ _
    (λ found h. subst (λ (xs : List Holding). IsAgreed run (AllHeld pool xs) t0 t2 (is_none found)) (sym c.in-Some.ensures.cases.0)
    (agreed_on run (IsHeld pool c.in-Some.holding.now) (AllHeld pool c.in-Some.rest.now) t0 t1 t2 c.in_ok-holding_agrees.field-0 (is_none found) c.if-not-branch.false c.in_ok-holding_agrees.ensures h)) c.unlike_holding.ensures
