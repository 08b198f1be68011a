-- The table of the numbers of texts, one text further.
use Rattle.std.proofs.Common.{◌≡◌, ℕ, ◌+◌, ◌<◌, Bool, true, false, cond, List, [], length, Option, Some, None, IfSome, Bor, inl, inr, refl, sym, ap, ◌∙◌, arith}
use Rattle.std.proofs.lemmas.Bool.{cases_lt, true≢false}
use Rattle.std.proofs.lemmas.Option.{same_Some}
use Rattle.std.proofs.lemmas.Slice.Eq.{bytes_eq-Decides}
use Rattle.rec_bits.specs.Faults.{same_name}
use Rattle.asm_text.specs.Lines.{text_of}
use Rattle.asm_text.specs.Inner.Numbers.{HasNumbers, number_in}

pub none_yet : (texts : List (List ℕ)) → HasNumbers [] texts 0
none_yet texts = record { told = λ text number e. cc; all = λ number lt. absurd (omega (arith, lt)) }

module _ (old new : List (Bor (List ℕ) × ℕ)) (texts : List (List ℕ)) (i : ℕ) (text : List ℕ) (is : text_of texts i ≡ text)
    (updates : (name : List ℕ) → number_in new name ≡ cond (same_name text name) (Some i) (number_in old name)) (has : HasNumbers old texts i) where
  told_so : (name : List ℕ) (number : ℕ) (same : Bool) → same_name text name ≡ same → cond same (Some i) (number_in old name) ≡ Some number → (number < i + 1) × (text_of texts number ≡ name)
  told_so name number true s e =
      let at : i ≡ number = same_Some i number e in
      (omega (arith, at), ap (text_of texts) (sym at) ∙ is ∙ (bytes_eq-Decides text name).0 s)
  told_so name number false s e =
      let p = has.told name number e in
      (omega (arith, p.0), p.1)

  some_there : (name : List ℕ) (same : Bool) → same_name text name ≡ same → (same ≡ false → number_in old name ≡ None → ⊥) → cond same (Some i) (number_in old name) ≡ None → ⊥
  some_there name true s h e = cc
  some_there name false s h e = h refl e

  there : (number : ℕ) → number < i + 1 → number_in new (text_of texts number) ≡ None → ⊥
  there number lt none =
      some_there (text_of texts number) (same_name text (text_of texts number)) refl
      (λ other. (elim (cases_lt number i) as (λ _. number_in old (text_of texts number) ≡ None → ⊥) [
        | inl before ↦ has.all number before
        | inr not ↦
            (λ e.
            (let at : number ≡ i = omega (arith, lt, not) in
            true≢false (sym ((bytes_eq-Decides text (text_of texts number)).1 (sym is ∙ ap (text_of texts) (sym at))) ∙ other)))
      ]))
      (sym (updates (text_of texts number)) ∙ none)

  pub one_more : HasNumbers new texts (i + 1)
  one_more = record {
    told = λ name number e. told_so name number (same_name text name) refl (sym (updates name) ∙ e);
    all = there;
  }

-- ---- what is found

module _ (entries : List (Bor (List ℕ) × ℕ)) (texts : List (List ℕ)) (has : HasNumbers entries texts (length texts)) (text : List ℕ) where
  pub found_some : (found : Option ℕ) → found ≡ number_in entries text → IfSome found (λ number. (number < length texts) × (text_of texts number ≡ text))
  found_some None e = tt
  found_some (Some number) e = has.told text number (sym e)

  pub found_only : (found : Option ℕ) → found ≡ number_in entries text → (number : ℕ) → number < length texts → text_of texts number ≡ text → found ≡ None → ⊥
  found_only found e number lt is none = has.all number lt (ap (number_in entries) is ∙ sym e ∙ none)
