use Rattle.std.proofs.Common.{sym, subst}
use Rattle.std.proofs.lemmas.Result.{IfOk-from_err}
use Rattle.explain_command.specs.Explained.{AreNearLines, IsInner}
use Rattle.explain_command.specs.Lines.{near_line}
use Rattle.explain_command.proofs.Growing.{begins_end, begins_none, begins_on, inner_front, near_more, no_near}
use Rattle.explain_command.proofs.covering.add_near_lines.Goals as goal

pub loop-told-init : goal.loop-told-init
loop-told-init c = begins_none c.args.text.now.items AreNearLines

pub loop-told-preserved : goal.loop-told-preserved
loop-told-preserved c =
    let rest = c.line_around.result.now in
    let inner : IsInner rest = subst IsInner (sym c.line_around.ensures) (inner_front c.deref.result.now) in
    begins_on c.args.text.now.items c.loop-told.text.items AreNearLines AreNearLines AreNearLines (near_line rest) c.add_near.new.text.items
    (λ later near. near_more rest later inner near) c.in_ok-add_near.ensures c.loop-told.invariant

pub returns : goal.returns
returns c = begins_end c.args.text.now.items c.loop-told.text.items AreNearLines AreNearLines no_near c.loop-told.invariant

pub returns-in_err-near : goal.returns-in_err-near
returns-in_err-near c = IfOk-from_err c.from_residual.result _ c.from_residual.ensures.0
