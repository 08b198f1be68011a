use Rattle.std.proofs.Common.{◌∙◌, ap, arith, subst, sym}
use Rattle.class_values.specs.Values.{Holds}
use Rattle.sym_run.proofs.Walking.{answer_of}
use Rattle.mark_start.specs.Runs.{IsKeptClass, IsViewOf, room_of}
use Rattle.mark_start.proofs.Learning.{learnt_none, machine_learnt}
use Rattle.mark_start.proofs.run.Start.kept_view.Goals as goal

pub returns-in-Some : goal.returns-in-Some
returns-in-Some c =
    let t = c.kept.new.table in
    let at = c.args.address in
    let less = c.if-from-room.false in
    let same = c.from.ensures in
    let end = c.room.ensures.is ∙ ap (room_of c.args.self.now.temps) c.as_slice.ensures in
    let is = answer_of (IsKeptClass t at) c.in_ok-found.found c.in-Some.class c.in-Some.is c.in_ok-found.ensures.is in
    machine_learnt c.args.self.now (IsViewOf c.args.self.now.pool.now c.args.view at) c.args.table.now t c.in_ok-found.ensures.grows c.args.run.now c.learn.new.known
    (c.learn.ensures.arrays c.args.self.now.from.now.spots)
    (λ s cells memory m h k n. c.learn.ensures.told t memory s n (subst (Holds t memory c.in-Some.class) (m.kept at (omega (arith, less, same, end)) ∙ sym h) (is memory)))

pub returns-in_default : goal.returns-in_default
returns-in_default c = learnt_none c.args.self.now _ c.args.table.now c.kept.new.table c.args.run.now c.in_ok-found.ensures.grows
