use Rattle.std.proofs.Common.{refl}
use Rattle.class_values.proofs.Keeping.{grows_same}
use Rattle.segment.proofs.Copying.{fact_told, told_none}
use Rattle.segment.proofs.run.Segment.tell_like.Goals as goal

pub returns-in_default : goal.returns-in_default
returns-in_default c = told_none c.args.table.now c.args.table.now c.args.run.now (grows_same c.args.table.now)

pub returns-then-not-branch : goal.returns-then-not-branch
returns-then-not-branch c = told_none c.args.table.now c.args.table.now c.args.run.now (grows_same c.args.table.now)

pub returns : goal.returns
returns c =
    fact_told c.args.table.now c.args.run.now c.as_slice.result.now c.as_slice.ensures _ refl (record { class = c.args.test; number = c.in-Some.number }) c.args.other c.requires
    (c.in_ok-are_one.ensures c.if-not-branch.false) c.in-Some.ensures _ c.in_ok-push.ensures.pushed
