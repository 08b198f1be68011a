use Rattle.std.proofs.Common.{subst}
use Rattle.mark_start.specs.Marked.{IsSpotShown, SeenBy}
use Rattle.mark_start.specs.Runs.{IsViewOf}
use Rattle.mark_start.proofs.Learning.{learnt_as}
use Rattle.mark_start.proofs.run.Start.view.Goals as goal

pub returns-in_ok-seen_view : goal.returns-in_ok-seen_view
returns-in_ok-seen_view c =
    let spot = c.args.spot in
    let pool = c.args.self.now.pool.now in
    learnt_as c.args.self.now (IsViewOf pool c.in-Some.view spot.address) (IsSpotShown pool spot) c.args.table.now c.seen_view.new.table c.args.run.now c.seen_view.new.run
    (λ s cells h. (subst (λ o. SeenBy pool o spot.address spot.len s cells) c.in-Some.is (h c.if-spot.false)).1) c.in_ok-seen_view.ensures
