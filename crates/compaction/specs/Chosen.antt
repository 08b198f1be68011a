-- Which packing is written, where several are right: from the front two neighbours are merged, or
-- else the first movable step moves; after a change it goes on one group back.
use Rattle.std.specs.Prelude.{◌≡◌, ℕ, ◌+◌, ◌-◌, ◌<◌, ◌≤◌, suc, List, [], ◌∷◌, ◌++◌, length, slice_get, remove, Some}
use Rattle.form_model.specs.Effects.{Operation}
use Rattle.form_model.specs.Live.{Regs, live_before}
use Rattle.compaction.specs.Packing.{IsSettled, Mergeable, Movable}

-- from a pair of neighbours on, by its number, these groups become the result: two neighbours are
-- merged where they may be, or else the first movable step of the second moves up; after a change
-- it goes on one group back, and where nothing changes one group on
pub data Packs {A : Type 0} (m : A → Operation) (fits : ℕ → List A → Regs → Type 0) (after : Regs)
    : ℕ → List (List A) → List (List A) → Type 0 where
  ends : (pair : ℕ) (gs result : List (List A)) → length gs ≤ pair + 1 → result ≡ gs → Packs m fits after pair gs result
  merges : (pair : ℕ) (gs result front : List (List A)) (g h : List A) (back : List (List A))
      → gs ≡ front ++ g ∷ h ∷ back → length front ≡ pair
      → Mergeable m fits g h (live_before m back after)
      → Packs m fits after (pair - 1) (front ++ (g ++ h) ∷ back) result
      → Packs m fits after pair gs result
  moves : (pair : ℕ) (gs result front : List (List A)) (g a : List A) (x : A) (b : List A) (back : List (List A))
      → gs ≡ front ++ g ∷ (a ++ x ∷ b) ∷ back → length front ≡ pair
      → (Mergeable m fits g (a ++ x ∷ b) (live_before m back after) → ⊥)
      → Movable m fits g x (a ++ b) (live_before m back after)
      → ((i : ℕ) → i < length a → (y : A) → slice_get (a ++ x ∷ b) i ≡ Some y
      → Movable m fits g y (remove (a ++ x ∷ b) i) (live_before m back after) → ⊥)
      → Packs m fits after (pair - 1) (front ++ (g ++ x ∷ []) ∷ (a ++ b) ∷ back) result
      → Packs m fits after pair gs result
  stays : (pair : ℕ) (gs result front : List (List A)) (g h : List A) (back : List (List A))
      → gs ≡ front ++ g ∷ h ∷ back → length front ≡ pair
      → IsSettled m fits g h (live_before m back after) → Packs m fits after (suc pair) gs result
      → Packs m fits after pair gs result
