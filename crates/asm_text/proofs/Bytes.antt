-- What follows a text in a longer one, and the storage that a text names.
use Rattle.std.proofs.Common.{◌≡◌, ℕ, ◌+◌, List, ◌++◌, length, take, drop, true, false, Option, None, Some, IfSome, MatchOption, refl, sym, ap, ◌∙◌}
use Rattle.std.proofs.lemmas.Bool.{true≢false}
use Rattle.std.proofs.lemmas.List.{take-append-drop}
use Rattle.std.proofs.lemmas.List.Folds.{length-prefix_len}
use Rattle.std.proofs.lemmas.Slice.Eq.{bytes_eq-Decides}
use Rattle.std.proofs.Math.Seq.{drop-append_seam, take-append_seam}
use Rattle.std.specs.Cmp.Lexicographic.{pointwise}
use Rattle.std.specs.Prelude.{nat_eq}
use Rattle.asm_text.specs.Lines.{storage_in}

-- ---- a text that begins with another

module _ {A : Type 0} (v : A → List ℕ) (text front : List ℕ) where
  abbrev Stripped : Option A → Type 0
  Stripped o = MatchOption o (pointwise nat_eq (take (length front) text) front ≡ false) (λ x. (pointwise nat_eq (take (length front) text) front ≡ true) × (v x ≡ drop (length front) text) × (length (v x) + length front ≡ length text))

  pub strip_some : (o : Option A) → Stripped o → IfSome o (λ x. text ≡ front ++ v x)
  strip_some None h = tt
  strip_some (Some x) h =
      sym (take-append-drop (length front) text)
      ∙ ap (λ (f : List ℕ). f ++ drop (length front) text) ((bytes_eq-Decides (take (length front) text) front).0 h.0)
      ∙ ap (λ (r : List ℕ). front ++ r) (sym h.1)

  pub strip_only : (o : Option A) → Stripped o → (rest : List ℕ) → text ≡ front ++ rest → MatchOption o ⊥ (λ x. v x ≡ rest)
  strip_only None h rest e =
      let t : take (length front) text ≡ front = ap (take (length front)) e ∙ take-append_seam front rest in
      true≢false (sym ((bytes_eq-Decides front front).1 refl) ∙ ap (λ (f : List ℕ). pointwise nat_eq f front) (sym t) ∙ h)
  strip_only (Some x) h rest e = h.1 ∙ ap (drop (length front)) e ∙ drop-append_seam front rest

-- ---- storages

pub storage_cut : (text : List ℕ) (n : ℕ) → n ≡ length (storage_in text) → take n text ≡ storage_in text
storage_cut text n e = ap (λ (k : ℕ). take k text) (e ∙ length-prefix_len _ text)
