-- The words that the packer found for its groups as it made them.
use Rattle.std.specs.Prelude.{ℕ, List, [], ◌∷◌, Option, IfSome}
use Rattle.form_model.specs.Effects.{Operation}
use Rattle.form_model.specs.Live.{Regs, live_before}
use Rattle.word_fit.specs.Fits.{IsLeastFit}

-- for each group the word that was found, if one was: it is the least that fits the group with the
-- registers that are live behind it
abbrev pub AreFound : {A : Type 0} → (A → Operation) → (ℕ → List A → Regs → Type 0) → List (Option ℕ) →
    List (List A) → Regs → Type 0
AreFound m fits [] [] after = Unit {0}
AreFound m fits (word ∷ found) (g ∷ gs) after =
    IfSome word (IsLeastFit (λ w. fits w g (live_before m gs after))) × AreFound m fits found gs after
AreFound m fits found gs after = ⊥
