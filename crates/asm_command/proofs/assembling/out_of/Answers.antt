use Rattle.std.proofs.Common.{◌∙◌, ap, ℕ, List}
use Rattle.std.proofs.lemmas.Result.{err_from_is_err_and}
use Rattle.code_model.specs.ImageText.{image_text}
use Rattle.code_model.specs.declared.limits.Limits.{Limits}
use Rattle.asm_command.specs.Assembled.{bare_image}
use Rattle.asm_command.proofs.assembling.out_of.Goals as goal

pub returns-in_err-words-clause-refused : goal.returns-in_err-words-clause-refused
returns-in_err-words-clause-refused c =
    let p = err_from_is_err_and c.from_residual.result c.from_residual.ensures.1 in
    rw (p.1, p.2) c.in_err-words.ensures.refused

pub returns-in_err-out-clause-refused : goal.returns-in_err-out-clause-refused
returns-in_err-out-clause-refused c =
    let p = err_from_is_err_and c.from_residual-in_err-out.result c.from_residual-in_err-out.ensures.1 in
    rw (p.1, p.2) tt

pub returns-clause-out : goal.returns-clause-out
returns-clause-out c = record {
  words = c.in_ok-words.words;
  least = c.in_ok-words.ensures.words;
  written =
      c.in_ok-out.ensures ∙ ap (λ (ws : List ℕ). image_text (bare_image c.of.result.bits ws)) c.as_slice.ensures
      ∙ ap (λ (limits : Limits). image_text (bare_image limits.bits c.in_ok-words.words)) c.of.ensures.value;
}
