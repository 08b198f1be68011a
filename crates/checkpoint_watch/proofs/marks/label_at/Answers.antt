use Rattle.std.proofs.Common.{ap, rules, sym, ◌∙◌, Some}
use Rattle.std.proofs.lemmas.List.Sorted.{answers_always}
use Rattle.code_model.specs.declared.image.Mark.{Mark}
use Rattle.checkpoint_watch.proofs.Halving.{found, missing}
use Rattle.checkpoint_watch.proofs.marks.label_at.Goals as goal

pub returns-in-Ok : goal.returns-in-Ok
returns-in-Ok c =
    let by_key = c.in-Ok.ensures.position (λ (mark : Mark). mark.address) (answers_always _ _ _ (λ f a r g called. search rules)) in
    ap Some c.checkpoint_of.ensures ∙ sym (found c.args.marks.now c.requires c.args.address c.in-Ok.place c.in-Ok.ensures.bound by_key)

pub returns-in-Err : goal.returns-in-Err
returns-in-Err c =
    let by_key = c.in-Err.ensures.position (λ (mark : Mark). mark.address) (answers_always _ _ _ (λ f a r g called. search rules)) in
    sym (missing c.args.marks.now c.requires c.args.address c.in-Err.field-0 c.in-Err.ensures.bound by_key)
