use Rattle.std.proofs.Common.{arith}
use Rattle.std.proofs.lemmas.Result.{on_ok_weaker}
use Rattle.segment.proofs.Copying.{told_none, told_on}
use Rattle.segment.proofs.run.Segment.tell_by.Goals as goal

pub returns-then-branch : goal.returns-then-branch
returns-then-branch c = c.in_ok-tell_like.ensures

pub returns-in_default : goal.returns-in_default
returns-in_default c =
    let t0 = c.args.table.now in
    told_on t0 t0 c.add.new.self c.args.run.now c.tell_like.new.run c.tell_like.new.run c.in_ok-tell_like.ensures (told_none t0 c.add.new.self c.tell_like.new.run c.in_ok-negation.ensures.grows)

pub tell_like-requires-2 : goal.tell_like-requires-2
tell_like-requires-2 c = omega (arith, c.requires, c.in_ok-negation.ensures.grows.longer)

pub returns : goal.returns
returns c =
    let t0 = c.args.table.now in
    let t1 = c.add.new.self in
    let r1 = c.tell_like.new.run in
    on_ok_weaker c.tell_like-2.result
    (λ h. told_on t0 t1 t1 c.args.run.now r1 c.tell_like-2.new.run (told_on t0 t0 t1 c.args.run.now r1 r1 c.in_ok-tell_like.ensures (told_none t0 t1 r1 c.in_ok-negation.ensures.grows)) h) c.tell_like-2.ensures
