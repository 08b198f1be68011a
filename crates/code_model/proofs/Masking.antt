-- Masks: of nothing, and of a program's checkpoints, whose labels and whose number they leave.
use Rattle.std.proofs.Common.{ℕ, zero, suc, ◌≡◌, inl, inr, List, [], ◌∷◌, ◌++◌, length, take, drop, Some, refl, ◌∙◌, ap}
use Rattle.std.proofs.lemmas.List.{take-append-drop}
use Rattle.src_model.specs.declared.checkpoint.Checkpoint.{Checkpoint}
use Rattle.src_model.specs.Ways.{Passed, Onward}
use Rattle.src_model.proofs.WayLemmas.{IsWhole, Whole, Steady, end_or, has_end}
use Rattle.code_model.specs.declared.image.Place.{Place}
use Rattle.code_model.specs.declared.views.Viewed.{Viewed}
use Rattle.code_model.specs.Views.{hidden_at, mask_store, masked, masked_passed}

-- ---- of nothing

pub mask_none : (places : List Place) (store : List ℕ) → mask_store [] places store ≡ store
mask_none [] store = refl
mask_none (place ∷ places) store =
    ap (λ later. take place.len store ++ later) (mask_none places (drop place.len store)) ∙ take-append-drop place.len store

pub masked_none : (viewed : Viewed) → ((label : Checkpoint) → hidden_at viewed.hidden (Some label) ≡ []) → (ps : List Passed) → masked viewed ps ≡ ps
masked_none viewed none [] = refl
masked_none viewed none (p ∷ ps) =
    ap (λ cells. record { label = p.label; cells = cells } ∷ masked viewed ps)
    (ap (λ names. mask_store names viewed.image.places p.cells) (none p.label) ∙ mask_none viewed.image.places p.cells)
    ∙ ap (λ later. p ∷ later) (masked_none viewed none ps)

-- ---- of checkpoints

module _ (viewed : Viewed) where
  masked_end : (ps : List Passed) → has_end (masked viewed ps) ≡ has_end ps
  masked_end [] = refl
  masked_end (p ∷ ps) = ap (end_or p.label) (masked_end ps)

  masked_length : (ps : List Passed) → length (masked viewed ps) ≡ length ps
  masked_length [] = refl
  masked_length (p ∷ ps) = ap suc (masked_length ps)

  masked_take : (j : ℕ) (ps : List Passed) → take j (masked viewed ps) ≡ masked viewed (take j ps)
  masked_take zero ps = refl
  masked_take (suc j) [] = refl
  masked_take (suc j) (p ∷ ps) = ap (λ later. masked_passed viewed p ∷ later) (masked_take j ps)

  masked_is_whole : (m : ℕ) (ps : List Passed) → IsWhole m ps → IsWhole m (masked viewed ps)
  masked_is_whole m ps (inl e) = inl (masked_length ps ∙ e)
  masked_is_whole m ps (inr e) = inr (masked_end ps ∙ e)

  abbrev pub masked_way : Onward → Onward
  masked_way way more cells = masked viewed (way more cells)

  pub masked_whole : (m : ℕ) (way : Onward) → Whole m way → Whole m (masked_way way)
  masked_whole m way h j le cells = masked_is_whole j (way j cells) (h j le cells)

  pub masked_steady : (m : ℕ) (way : Onward) → Steady m way → Steady m (masked_way way)
  masked_steady m way h j lt cells = masked_take j (way (suc j) cells) ∙ ap (masked viewed) (h j lt cells)
