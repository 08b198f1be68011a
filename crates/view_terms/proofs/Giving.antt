-- What follows at the exits of a reader.
use Rattle.std.proofs.Common.{◌≡◌, Option, None, Some, Result, Ok, Err, refl, sym, ap, subst, ◌∙◌, List, ℕ, zero, suc, ◌-◌, ◌<◌, arith}
use Rattle.std.specs.Prelude.{IfOk, MatchResult}
use Rattle.std.proofs.lemmas.Option.{same_Some}
use Rattle.text_lines.specs.Fields.{◌>>=◌}
use Rattle.view_terms.specs.declared.term.Term.{Term}
use Rattle.view_terms.specs.declared.stop.Stop.{Stop}
use Rattle.view_terms.specs.declared.stop.Stop.TheVariants.{Form, Memory}
use Rattle.view_terms.specs.Terms.{SaysTerm, TermModel, model_of_term}
use Rattle.view_terms.specs.Inner.Reading.{Found, Gives, StopsAs, behind, behind_word, called, leaf_at, term_at, when, whole_term, word_in}
use Rattle.view_terms.proofs.Laws.{whole_again, whole_is}

-- where the first step gives nothing, the next gives nothing
pub bind_stops : {A B : Type 0} (o : Option A) (f : A → Option B) (stop : Stop) → StopsAs o stop → StopsAs (o >>= f) stop
bind_stops o f Form h = rw h refl
bind_stops o f Memory h = tt

-- what a reader of terms says
pub giving_read : (text : List ℕ) (r : Result Term Stop) → Gives model_of_term (whole_term text) r → IfOk r (λ found. SaysTerm text (model_of_term found))
giving_read text (Ok found) g = whole_is text (model_of_term found) g
giving_read text (Err stop) g = tt

pub giving_only : (text : List ℕ) (r : Result Term Stop) → Gives model_of_term (whole_term text) r → (said : TermModel) → SaysTerm text said →
    MatchResult r (λ found. model_of_term found ≡ said) (λ stop. stop ≡ Memory)
giving_only text (Ok found) g said s = same_Some (model_of_term found) said (sym g ∙ whole_again text said s)
giving_only text (Err Form) g said s = absurd (let e : None ≡ Some said = sym g ∙ whole_again text said s in cc)
giving_only text (Err Memory) g said s = refl

-- and back
pub gives_of : (text : List ℕ) (r : Result Term Stop) → IfOk r (λ found. SaysTerm text (model_of_term found)) →
    ((said : TermModel) → SaysTerm text said → MatchResult r (λ found. model_of_term found ≡ said) (λ stop. stop ≡ Memory)) → Gives model_of_term (whole_term text) r
gives_of text (Ok found) read only = whole_again text (model_of_term found) read
gives_of text (Err Memory) read only = tt
gives_of text (Err Form) read only = step (whole_term text) (λ said e. whole_is text said e)
  where
    step : (o : Option TermModel) → ((said : TermModel) → o ≡ Some said → SaysTerm text said) → o ≡ None
    step None says = refl
    step (Some said) says = absurd (let e : Form ≡ Memory = only said (says said refl) in cc)

-- ---- a term that may have levels of parentheses

term_step : (levels : ℕ) (text : List ℕ) → 0 < levels →
    term_at levels text ≡ when (behind 40 (behind_word text)) (called (term_at (levels - 1)) (word_in text)) (leaf_at (word_in text) (behind_word text))
unfolding term_at
term_step zero text h = absurd (omega arith)
term_step (suc levels) text h =
    let e : levels ≡ suc levels - 1 = omega arith in
    ap (λ k. when (behind 40 (behind_word text)) (called (term_at k) (word_in text)) (leaf_at (word_in text) (behind_word text))) e

-- one opens behind the word
pub called_gives : {X : Type 0} (see : X → Found) (levels : ℕ) (text word rest inner : List ℕ) (r : Result X Stop) → 0 < levels → word ≡ word_in text → rest ≡ behind_word text → Some inner ≡ behind 40 rest →
    Gives see (called (term_at (levels - 1)) word inner) r → Gives see (term_at levels text) r
called_gives see levels text word rest inner r h w b o g =
    let opens : behind 40 (behind_word text) ≡ Some inner = ap (behind 40) (sym b) ∙ sym o in
    let same : term_at levels text ≡ called (term_at (levels - 1)) word inner =
    term_step levels text h ∙ ap (λ x. when x (called (term_at (levels - 1)) (word_in text)) (leaf_at (word_in text) (behind_word text))) opens ∙ ap (λ x. called (term_at (levels - 1)) x inner) (sym w) in
    subst (λ x. Gives see x r) (sym same) g

-- none does
pub leaf_gives : {X : Type 0} (see : X → Found) (levels : ℕ) (text word rest : List ℕ) (r : Result X Stop) → 0 < levels → word ≡ word_in text → rest ≡ behind_word text → None ≡ behind 40 rest →
    Gives see (leaf_at word rest) r → Gives see (term_at levels text) r
leaf_gives see levels text word rest r h w b o g =
    let opens : behind 40 (behind_word text) ≡ None = ap (behind 40) (sym b) ∙ sym o in
    let same : term_at levels text ≡ leaf_at word rest =
    term_step levels text h ∙ ap (λ x. when x (called (term_at (levels - 1)) (word_in text)) (leaf_at (word_in text) (behind_word text))) opens ∙ ap (λ x. leaf_at x (behind_word text)) (sym w) ∙ ap (leaf_at word) (sym b) in
    subst (λ x. Gives see x r) (sym same) g
