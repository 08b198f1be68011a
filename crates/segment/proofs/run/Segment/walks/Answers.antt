use Rattle.std.proofs.Common.{subst}
use Rattle.sym_run.specs.declared.known.Known.{Known}
use Rattle.sym_run.specs.Walks.{Arrives, IfArrives}
use Rattle.segment.proofs.Agreement.{if_end}
use Rattle.segment.proofs.Leading.{came_here}
use Rattle.segment.proofs.run.Segment.walks.Goals as goal

pub returns : goal.returns
returns c =
    let seg = c.args.self.now in
    let run = c.args.run.now in
    let t0 = c.args.table.now in
    let t1 = c.over_path.new.table in
    let t2 = c.walk.new.table in
    let t3 = c.ends.new.table in
    let after = c.over_path.new.run in
    let facts = c.as_slice.result in
    let walked = c.in_ok-walked.walked in
    if_end c.ends.result _ _
    (λ address left e. came_here seg t0 t1 t2 t3 run after facts c.as_slice.ensures walked address left
    (c.in_ok-over_path.ensures c.if-not-branch.false)
    c.in_ok-walked.ensures.grows
    (subst (λ (known : Known). IfArrives walked (Arrives t1 t2 (record { pool = seg.start.pool; facts = facts; code = seg.start.code; marks = seg.marks; counter = seg.start.counter; memory = seg.start.memory; file = seg.start.file }) known seg.clocks))
    c.replace-machine.ensures.value c.in_ok-walked.ensures.arrives) e) c.ends.ensures
