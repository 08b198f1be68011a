-- The least words of groups fit them.
use Rattle.std.proofs.Common.{◌≡◌, ℕ, zero, suc, List, [], ◌∷◌, drop, slice_get, slice_index, Some, refl, sym, ◌∙◌, ap, add-one, arith, subst}
use Rattle.rec_bits.proofs.Options.{same_Some, none-some}
use Rattle.form_model.specs.Effects.{Operation}
use Rattle.form_model.specs.Live.{Regs, live_at, live_before}
use Rattle.word_fit.specs.Fits.{IsLeastFit}
use Rattle.word_fit.specs.Groups.{GroupsFit, AllHaveWords, AreLeast}

module _ {A : Type 0} (m : A → Operation) (fits : ℕ → List A → Regs → Type 0) (after : Regs) where
  later : (g : List A) (gs : List (List A)) (k : ℕ) → live_at m (g ∷ gs) after (suc k) ≡ live_at m gs after k
  later g gs k =
      ap (λ n. live_before m (drop n (g ∷ gs)) after) (add-one (suc k)) ∙ sym (ap (λ n. live_before m (drop n gs) after) (add-one k))

  less : (w : ℕ) (ws : List ℕ) (g : List A) (gs : List (List A)) → AreLeast m fits (w ∷ ws) (g ∷ gs) after → AreLeast m fits ws gs after
  less w ws g gs l = record {
    long = omega (arith, l.long);
    least = λ k h e. subst (λ (live : Regs). IsLeastFit (λ word. fits word h live) (slice_index ws k)) (later g gs k) (l.least (suc k) h e);
  }

  -- least words fit
  pub all_fit : (ws : List ℕ) (gs : List (List A)) → AreLeast m fits ws gs after → GroupsFit m fits ws gs after
  all_fit [] [] l = tt
  all_fit [] (g ∷ gs) l = absurd (omega (arith, l.long))
  all_fit (w ∷ ws) [] l = absurd (omega (arith, l.long))
  all_fit (w ∷ ws) (g ∷ gs) l = ((l.least 0 g refl).is, all_fit ws gs (less w ws g gs l))

  -- the word of the group at a place
  pub word_at_place : (gs : List (List A)) (k : ℕ) (g : List A) → slice_get gs k ≡ Some g → AllHaveWords m fits gs after → (w : ℕ) × fits w g (live_at m gs after k)
  word_at_place [] k g e h = absurd (none-some g e)
  word_at_place (f ∷ gs) zero g e h = subst (λ z. (w : ℕ) × fits w z (live_before m gs after)) (same_Some f g e) h.0
  word_at_place (f ∷ gs) (suc k) g e h =
      subst (λ (live : Regs). (w : ℕ) × fits w g live) (sym (later f gs k)) (word_at_place gs k g e h.1)

  same_least : (P : ℕ → Type 0) (v w : ℕ) → IsLeastFit P v → IsLeastFit P w → v ≡ w
  same_least P v w a b = omega (arith, a.least w b.is, b.least v a.is)

  -- and are the only ones
  pub least_one : (vs ws : List ℕ) (gs : List (List A)) → AreLeast m fits vs gs after → AreLeast m fits ws gs after → vs ≡ ws
  least_one [] [] gs a b = refl
  least_one [] (w ∷ ws) gs a b = absurd (omega (arith, a.long, b.long))
  least_one (v ∷ vs) [] gs a b = absurd (omega (arith, a.long, b.long))
  least_one (v ∷ vs) (w ∷ ws) [] a b = absurd (omega (arith, a.long))
  least_one (v ∷ vs) (w ∷ ws) (g ∷ gs) a b =
      (λ j. same_least (λ word. fits word g (live_at m (g ∷ gs) after 0)) v w (a.least 0 g refl) (b.least 0 g refl) j ∷ least_one vs ws gs (less v vs g gs a) (less w ws g gs b) j)
