use Rattle.std.proofs.Common.{◌∙◌, ◌++◌, ℕ, List, ap, refl, sym, subst}
use Rattle.asm_text.specs.Inner.Reading.{Breaks}
use Rattle.asm_text.proofs.Fronts.{front_is, joined, rest_is}
use Rattle.asm_text.proofs.Split.{behind, transfer_words}
use Rattle.asm_text.proofs.transfers.front.Goals as goal

pub returns-clause-some : goal.returns-clause-some
returns-clause-some c =
    let is = joined c.args.text.now c.first_word.result.0.now c.first_word.result.1.now c.in_ok-after.field-0.now c.first_word-2.result.0.now c.first_word-2.result.1.now c.first_word.ensures.parts c.in_ok-after.ensures.some c.first_word-2.ensures.parts in (
      c.split_at.ensures.by_index.0,
      subst Breaks (sym (c.split_at.ensures.back ∙ rest_is c.args.text.now _ c.first_word-2.result.1.now is)) c.first_word-2.ensures.breaks,
    )

pub returns-clause-only : goal.returns-clause-only
returns-clause-only c = λ transfer rest t b e.
    (let first = c.first_word.ensures.only t.place (behind transfer rest t) t.place_unbroken.space refl (e ∙ transfer_words transfer rest t) in
    let more = c.in_ok-after.ensures.only (t.value ++ rest) first.1 in
    let second = c.first_word-2.ensures.only t.value rest t.value_unbroken.space b more in
    let is = e ∙ ap (λ (r : List ℕ). transfer ++ r) (sym second.1) in (
      c.split_at.ensures.front ∙ front_is c.args.text.now transfer c.first_word-2.result.1.now is,
      c.split_at.ensures.back ∙ rest_is c.args.text.now transfer c.first_word-2.result.1.now is ∙ second.1,
    ))

pub returns-in_err-after-clause-only : goal.returns-in_err-after-clause-only
returns-in_err-after-clause-only c = λ transfer rest t b e.
    (let first = c.first_word.ensures.only t.place (behind transfer rest t) t.place_unbroken.space refl (e ∙ transfer_words transfer rest t) in
    absurd (c.in_err-after.ensures.only (t.value ++ rest) first.1))
