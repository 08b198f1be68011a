use Rattle.std.proofs.Common.{◌≡◌, slice_index, subst, sym}
use Rattle.net_model.specs.Meaning.{mean}
use Rattle.sym_expr.specs.Pools.{expr_of_id}
use Rattle.mark_start.specs.Marked.{IsSpotShown, SeenBy}
use Rattle.segment.specs.Runs.{AreCellsAlike}
use Rattle.segment.proofs.Agreement.{agreed_as, if_yes}
use Rattle.segment.proofs.run.Segment.spot_agrees.Goals as goal

pub returns-in-None : goal.returns-in-None
returns-in-None c =
    let spot = c.args.spot in
    let pool = c.args.self.now.start.pool.now in
    if_yes c.cells_agree.result _ _
    (λ said h. agreed_as c.args.run.now (AreCellsAlike c.from.result spot.len) (IsSpotShown pool spot) c.args.table.now c.cells_agree.new.table said
    (λ s now k e. subst (λ o. SeenBy pool o spot.address spot.len s now) (sym c.in-None.is) (subst (λ a. AreCellsAlike a spot.len s now) c.from.ensures k)) h) c.cells_agree.ensures

pub returns-else-spot-ne1 : goal.returns-else-spot-ne1
returns-else-spot-ne1 c =
    let spot = c.args.spot in
    let pool = c.args.self.now.start.pool.now in
    if_yes c.view_agrees.result _ _
    (λ said h. agreed_as c.args.run.now (λ s now. mean (expr_of_id pool c.in-Some.view) s 0 ≡ slice_index now spot.address) (IsSpotShown pool spot) c.args.table.now c.view_agrees.new.table said
    (λ s now k e. subst (λ o. SeenBy pool o spot.address spot.len s now) (sym c.in-Some.is) (c.if-spot-ne1.false, k)) h) c.view_agrees.ensures
