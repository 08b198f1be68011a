use Rattle.std.proofs.Common.{List, is_none, subst, sym}
use Rattle.std.proofs.lemmas.Result.{IfOk-weaker}
use Rattle.mark_start.specs.declared.hints.Numbered.{Numbered}
use Rattle.mark_start.specs.Marked.{AllNumbered, IsNumbered}
use Rattle.segment.specs.Runs.{IsAgreed}
use Rattle.segment.proofs.Agreement.{agreed_on}
use Rattle.segment.proofs.run.Segment.+unlike_number.Goals as goal

pub returns : goal.returns
returns t c =
    let run = c.args.run.now in
    let t0 = c.args.table.now in
    let t1 = c.number_agrees.new.table in
    let t2 = c.unlike_number.new.table in
    IfOk-weaker c.unlike_number.result _ _
    (λ found h. subst (λ (xs : List Numbered). IsAgreed run (λ s now. AllNumbered xs now) t0 t2 (is_none found)) (sym c.in-Some.ensures.cases.0)
    (agreed_on run (λ s now. IsNumbered c.in-Some.one.now now) (λ s now. AllNumbered c.in-Some.rest.now now) t0 t1 t2 c.in_ok-number_agrees.field-0 (is_none found) c.if-not-branch.false c.in_ok-number_agrees.ensures h)) c.unlike_number.ensures
