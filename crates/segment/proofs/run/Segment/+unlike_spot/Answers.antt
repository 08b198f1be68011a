use Rattle.std.proofs.Common.{List, is_none, subst, sym}
use Rattle.std.proofs.lemmas.Result.{IfOk-weaker}
use Rattle.mark_start.specs.declared.hints.Spot.{Spot}
use Rattle.mark_start.specs.Marked.{IsSpotShown, SpotsSeen}
use Rattle.segment.specs.Runs.{IsAgreed}
use Rattle.segment.proofs.Agreement.{agreed_on}
use Rattle.segment.proofs.run.Segment.+unlike_spot.Goals as goal

pub returns : goal.returns
returns t c =
    let run = c.args.run.now in
    let pool = c.args.self.now.start.pool.now in
    let t0 = c.args.table.now in
    let t1 = c.spot_agrees.new.table in
    let t2 = c.unlike_spot.new.table in
    IfOk-weaker c.unlike_spot.result _ _
    (λ found h. subst (λ (xs : List Spot). IsAgreed run (SpotsSeen pool xs) t0 t2 (is_none found)) (sym c.in-Some.ensures.cases.0)
    (agreed_on run (IsSpotShown pool c.in-Some.spot.now) (SpotsSeen pool c.in-Some.rest.now) t0 t1 t2 c.in_ok-spot_agrees.field-0 (is_none found) c.if-not-branch.false c.in_ok-spot_agrees.ensures h)) c.unlike_spot.ensures
