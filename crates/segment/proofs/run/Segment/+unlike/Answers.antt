use Rattle.std.proofs.Common.{◌∙◌, ◌∷◌, List, Option, is_none, true, inl, inr, subst, sym}
use Rattle.std.proofs.lemmas.Result.{IfOk-weaker}
use Rattle.mark_start.specs.declared.hints.Hint.{Hint}
use Rattle.mark_start.specs.Marked.{IsAsHinted}
use Rattle.segment.specs.declared.way.Equation.{Equation}
use Rattle.segment.specs.Proved.{IsAtOne}
use Rattle.segment.specs.Runs.{IsAgreed}
use Rattle.segment.proofs.Agreement.{agreed_as}
use Rattle.segment.proofs.run.Segment.+unlike.Goals as goal

pub returns-then-is_label : goal.returns-then-is_label
returns-then-is_label t c =
    let run = c.args.run.now in
    let pool = c.args.self.now.start.pool.now in
    let label = c.args.self.now.label in
    let hint = c.in-Some.hint.now in
    let rest = c.in-Some.rest.now in
    let t0 = c.args.table.now in
    let t1 = c.first_unlike.new.table in
    subst (λ (xs : List Hint). IsAgreed run (IsAtOne pool c.args.address label xs) t0 t1 true) (sym c.in-Some.ensures.cases.0)
    (agreed_as run (IsAsHinted pool hint) (IsAtOne pool c.args.address label (hint ∷ rest)) t0 t1 true
    (λ s now k. inl (record { here = sym c.from.ensures ∙ c.if-from-address.true; labelled = c.is_label.ensures c.if-is_label.true; hinted = k }))
    (subst (λ (o : Option Equation). IsAgreed run (IsAsHinted pool hint) t0 t1 (is_none o)) c.in_default-2.is c.in_ok-what.ensures))

pub returns : goal.returns
returns t c =
    let run = c.args.run.now in
    let pool = c.args.self.now.start.pool.now in
    let label = c.args.self.now.label in
    let hint = c.in-Some.hint.now in
    let rest = c.in-Some.rest.now in
    let t0 = c.args.table.now in
    let t1 = c.unlike.new.table in
    IfOk-weaker c.unlike.result _ _
    (λ why h. subst (λ (xs : List Hint). IsAgreed run (IsAtOne pool c.args.address label xs) t0 t1 (is_none why)) (sym c.in-Some.ensures.cases.0)
    (agreed_as run (IsAtOne pool c.args.address label rest) (IsAtOne pool c.args.address label (hint ∷ rest)) t0 t1 (is_none why) (λ s now k. inr k) h)) c.unlike.ensures
