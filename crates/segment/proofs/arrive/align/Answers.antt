use Rattle.std.proofs.Common.{◌∙◌}
use Rattle.segment.proofs.Agreement.{aligned, not_aligned}
use Rattle.segment.proofs.arrive.align.Goals as goal

pub returns-then-not-branch : goal.returns-then-not-branch
returns-then-not-branch c = not_aligned c.args.table.now c.leave_same.new.table c.in_ok-leave_same.ensures.grows c.args.run.now

pub returns : goal.returns
returns c =
    aligned c.args.table.now c.leave_same.new.table c.in_ok-leave_same.ensures.grows c.args.run.now c.as_slice.result.now c.in_ok-run.field-0 c.as_slice.ensures
    (c.in_ok-run.ensures ∙ c.as_slice-2.ensures) (c.in_ok-leave_same.ensures.same c.if-not-branch.false)
