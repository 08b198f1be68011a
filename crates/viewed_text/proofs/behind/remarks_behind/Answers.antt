use Rattle.std.proofs.Common.{List, ◌∷◌, [], None, Some, map, sym, subst, ◌∙◌}
use Rattle.std.proofs.lemmas.List.{map-append}
use Rattle.view_lines.specs.Remarks.{RemarkModel, model_of_remark}
use Rattle.viewed_text.specs.Inner.Behind.{StopsBehind, done_line}
use Rattle.viewed_text.proofs.Going.{Going, all_read, done_missing, going_more, going_none, line_stops, more_behind}
use Rattle.viewed_text.proofs.Lines.{is_text, no_text_so, nothing_is, something_is}
use Rattle.viewed_text.proofs.behind.remarks_behind.Goals as goal

pub loop-line-init : goal.loop-line-init
loop-line-init c =
    subst (λ items. Going c.args.storages.now c.args.image.now c.args.word c.args.text.now c.args.text.now (map model_of_remark items) None) (sym c.new-remarks.ensures.items)
    (going_none c.args.storages.now c.args.image.now c.args.word c.args.text.now)

pub returns-then-at_end-clause-read : goal.returns-then-at_end-clause-read
returns-then-at_end-clause-read c =
    all_read c.args.storages.now c.args.image.now c.args.word c.args.text.now c.loop-line.rest.now c.in-Some.line.now c.in-Some.more.now (map model_of_remark c.loop-line.remarks.items) c.loop-line.last
    c.loop-line.invariant c.in-Some.ensures.some (is_text c.in-Some.line.now done_line (sym c.is_done_line-done.ensures ∙ c.if-done.true)) (nothing_is c.in-Some.more.now (sym c.is_nothing-at_end.ensures ∙ c.if-at_end.true))

pub returns-then-done-clause-stops : goal.returns-then-done-clause-stops
returns-then-done-clause-stops c =
    more_behind c.args.storages.now c.args.image.now c.args.word c.args.text.now c.loop-line.rest.now c.in-Some.line.now c.in-Some.more.now c.args.end (map model_of_remark c.loop-line.remarks.items) c.loop-line.last
    c.requires.room c.loop-line.invariant c.in-Some.ensures.some (is_text c.in-Some.line.now done_line (sym c.is_done_line-done.ensures ∙ c.if-done.true)) (something_is c.in-Some.more.now (sym c.is_nothing-at_end.ensures ∙ c.if-at_end.false))

pub returns-in-Err-clause-stops : goal.returns-in-Err-clause-stops
returns-in-Err-clause-stops c =
    subst (StopsBehind c.args.storages.now c.args.image.now c.args.word c.args.text.now c.args.end) (sym c.fault.ensures)
    (line_stops c.args.storages.now c.args.image.now c.args.word c.args.text.now c.loop-line.rest.now c.in-Some.line.now c.in-Some.more.now c.args.end (map model_of_remark c.loop-line.remarks.items) c.loop-line.last c.in-Err.stop
    c.requires.room c.loop-line.invariant c.in-Some.ensures.some (no_text_so c.in-Some.line.now done_line (sym c.is_done_line-done.ensures ∙ c.if-done.false)) c.in-Err.ensures)

pub loop-line-preserved : goal.loop-line-preserved
loop-line-preserved c =
    subst (λ items. Going c.args.storages.now c.args.image.now c.args.word c.args.text.now c.in-Some.more.now (map model_of_remark items) (Some c.in-Ok.turn)) (sym c.in_ok-push-in-Ok.ensures.items)
    (subst (λ (said : List RemarkModel). Going c.args.storages.now c.args.image.now c.args.word c.args.text.now c.in-Some.more.now said (Some c.in-Ok.turn)) (sym (map-append model_of_remark c.loop-line.remarks.items (c.in-Ok.remark ∷ [])))
    (going_more c.args.storages.now c.args.image.now c.args.word c.args.text.now c.loop-line.rest.now c.in-Some.line.now c.in-Some.more.now (map model_of_remark c.loop-line.remarks.items) c.loop-line.last (model_of_remark c.in-Ok.remark) c.in-Ok.turn
    c.loop-line.invariant c.in-Some.ensures.some c.in-Ok.ensures))

pub returns-clause-stops : goal.returns-clause-stops
returns-clause-stops c =
    done_missing c.args.storages.now c.args.image.now c.args.word c.args.text.now c.loop-line.rest.now c.args.end (map model_of_remark c.loop-line.remarks.items) c.loop-line.last
    (something_is c.args.text.now (sym c.is_nothing-none.ensures ∙ c.if-none.false)) c.loop-line.invariant c.in_default.ensures.none
