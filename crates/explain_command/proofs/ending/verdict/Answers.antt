use Rattle.std.proofs.Common.{List, [], ◌∷◌, ◌++◌, ◌∙◌, ap, subst, sym}
use Rattle.std.proofs.lemmas.Result.{IfOk-from_err}
use Rattle.isa_extract.specs.declared.netlists.Isa.{Isa}
use Rattle.isa_extract.specs.Extraction.{AreIsas}
use Rattle.explain_command.proofs.Alone.{only_isa}
use Rattle.explain_command.proofs.ending.verdict.Goals as goal

pub image_for-requires-clause-checked : goal.image_for-requires-clause-checked
image_for-requires-clause-checked c =
    record { rules = c.requires.alone.rules; width = c.requires.width; program = c.requires.program; few = c.requires.few; named = c.requires.named }

pub image_for-requires-clause-isas : goal.image_for-requires-clause-isas
image_for-requires-clause-isas c =
    subst (AreIsas c.args.modes.now.bases) (sym (c.in_ok-push.ensures.pushed ∙ ap (λ (isas : List Isa). isas ++ (c.args.isa ∷ [])) c.new-isas.ensures))
    (only_isa c.args.modes.now c.requires.alone c.args.isa c.requires.isa)

pub returns-clause-right : goal.returns-clause-right
returns-clause-right c = record { image = c.in_ok-image.image; right = c.in_ok-image.ensures.image }

pub returns-in_err-image-clause-right : goal.returns-in_err-image-clause-right
returns-in_err-image-clause-right c = IfOk-from_err c.from_residual-in_err-image.result _ c.from_residual-in_err-image.ensures.0
