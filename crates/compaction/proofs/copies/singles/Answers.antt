use Rattle.std.proofs.lemmas.Result.{IfOk-from_err}
use Rattle.std.proofs.Common.{◌∙◌}
use Rattle.compaction.proofs.Listed.{singles_more}
use Rattle.compaction.proofs.copies.singles.Goals as goal

pub loop-step-preserved : goal.loop-step-preserved
loop-step-preserved c =
    c.in_ok-push.ensures.items
    ∙ singles_more c.args.steps.now c.loop-step.step-index _ c.loop-step.groups.items _ c.loop-step-test.true c.loop-step.invariant c.in_ok-group.ensures

pub returns-in_err-group : goal.returns-in_err-group
returns-in_err-group c = IfOk-from_err c.from_residual.result _ c.from_residual.ensures.0

pub returns-in_err-push : goal.returns-in_err-push
returns-in_err-push c = IfOk-from_err c.from_residual-in_err-push.result _ c.from_residual-in_err-push.ensures.0
