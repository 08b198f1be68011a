use Rattle.src_trees.specs.Jobs.{model_of_job}
use Rattle.segment.proofs.Agreement.{found_as}
use Rattle.segment.proofs.Bridge.{found_way}
use Rattle.segment.proofs.Leading.{proved_denied, proved_from}
use Rattle.mark_start.proofs.Telling.{started}
use Rattle.segment.proofs.run.Segment.way_from.Goals as goal

pub returns-then-not-branch : goal.returns-then-not-branch
returns-then-not-branch c =
    let seg = c.args.self.now in
    let t0 = c.args.table.now in
    let t1 = c.tell.new.table in
    let first = c.tell.new.run in
    proved_denied seg c.args.job.now c.requires.job t0 t1 c.admits.new.table first
    (started seg.start (model_of_job c.args.job.now) t0 t1 c.args.run.now first c.requires.begun c.in_ok-tell.ensures) (c.in_ok-admits.ensures.denied c.if-not-branch.true)

pub returns : goal.returns
returns c =
    let seg = c.args.self.now in
    let t0 = c.args.table.now in
    let t1 = c.tell.new.table in
    let first = c.tell.new.run in
    let start = started seg.start (model_of_job c.args.job.now) t0 t1 c.args.run.now first c.requires.begun c.in_ok-tell.ensures in
    found_way seg c.in_ok-end.end c.way_to.result c.way_to.ensures.taken
    (found_as c.in_ok-end.end _ _ (λ address left. proved_from seg c.args.job.now c.requires.job t0 t1 c.admits.new.table first c.admits.new.run start
    (c.in_ok-admits.ensures.learnt c.if-not-branch.false) address left) c.in_ok-end.ensures)
