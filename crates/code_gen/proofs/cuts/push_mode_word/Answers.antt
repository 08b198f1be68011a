use Rattle.std.proofs.Common.{◌++◌, [], ◌∷◌, List, ap, ◌∙◌}
use Rattle.std.proofs.lemmas.Result.{IfOk-from_err}
use Rattle.form_model.specs.declared.forms.Step.{Step}
use Rattle.code_gen.proofs.cuts.push_mode_word.Goals as goal

-- the group has the one step
pub returns : goal.returns
returns c = record {
  groups =
      c.in_ok-push-2.ensures.pushed
      ∙ ap (λ (group : List Step). c.args.block.now.groups ++ group ∷ []) (c.in_ok-push.ensures.pushed ∙ ap (λ (group : List Step). group ++ record { pattern = c.args.word.pattern; setting = 0 } ∷ []) c.new-group.ensures);
  words = c.in_ok-push-3.ensures.pushed;
}

pub returns-in_err-push : goal.returns-in_err-push
returns-in_err-push c = IfOk-from_err c.from_residual.result _ c.from_residual.ensures.0

pub returns-in_err-push-2 : goal.returns-in_err-push-2
returns-in_err-push-2 c = IfOk-from_err c.from_residual-in_err-push-2.result _ c.from_residual-in_err-push-2.ensures.0

pub returns-in_err-push-3 : goal.returns-in_err-push-3
returns-in_err-push-3 c = IfOk-from_err c.from_residual-in_err-push-3.result _ c.from_residual-in_err-push-3.ensures.0
