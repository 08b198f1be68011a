-- Parts of lists by their places, and lists without one of their items.
use Rattle.std.proofs.Common.{◌≡◌, ℕ, zero, suc, ◌+◌, ◌-◌, ◌<◌, ◌≤◌, Bool, true, false, cond, List, [], ◌∷◌, ◌++◌, length, map, slice_get, slice_index, Option, Some, None, refl, ap, sym, ◌∙◌, subst, arith, inl, inr, nat_lt}
use Rattle.std.specs.List.{remove, flat_map, AllByRecursion}
use Rattle.std.proofs.lemmas.Bool.{cases_lt, lt-ltb, le-ltb}
use Rattle.rec_bits.proofs.Lists.{all_append}

module _ {X : Type 0} where
  -- these items stand in a list from a place on
  abbrev pub Holds : List X → ℕ → List X → Type 0
  Holds xs at [] = Unit {0}
  Holds xs at (y ∷ ys) = (slice_get xs at ≡ Some y) × Holds xs (suc at) ys

  pub holds_behind : (x : X) (xs : List X) (at : ℕ) (ys : List X) → Holds xs at ys → Holds (x ∷ xs) (suc at) ys
  holds_behind x xs at [] h = tt
  holds_behind x xs at (y ∷ ys) h = (h.0, holds_behind x xs (suc at) ys h.1)

  pub holds_here : (ys zs : List X) → Holds (ys ++ zs) 0 ys
  holds_here [] zs = tt
  holds_here (y ∷ ys) zs = (refl, holds_behind y (ys ++ zs) 0 ys (holds_here ys zs))

  pub holds_past : (ws xs : List X) (n at : ℕ) (ys : List X) → n ≡ length ws + at → Holds xs at ys → Holds (ws ++ xs) n ys
  holds_past [] xs n at ys e h = let q : at ≡ n = omega arith in subst (λ k. Holds xs k ys) q h
  holds_past (w ∷ ws) xs n at ys e h =
      let q : suc (length ws + at) ≡ n = omega arith in
      subst (λ k. Holds (w ∷ (ws ++ xs)) k ys) q
      (holds_behind w (ws ++ xs) (length ws + at) ys (holds_past ws xs (length ws + at) at ys refl h))

  -- the front of a part, and what stands behind it
  pub holds_front : (xs : List X) (at : ℕ) (ys zs : List X) → Holds xs at (ys ++ zs) → Holds xs at ys
  holds_front xs at [] zs h = tt
  holds_front xs at (y ∷ ys) zs h = (h.0, holds_front xs (suc at) ys zs h.1)

  pub holds_rest : (xs : List X) (n at : ℕ) (ys zs : List X) → n ≡ at + length ys → Holds xs at (ys ++ zs) → Holds xs n zs
  holds_rest xs n at [] zs e h = let q : at ≡ n = omega arith in subst (λ k. Holds xs k zs) q h
  holds_rest xs n at (y ∷ ys) zs e h = holds_rest xs n (suc at) ys zs (omega arith) h.1

  -- ---- without one item

  pub remove_before : (xs : List X) (b i : ℕ) → i < b → slice_get (remove xs b) i ≡ slice_get xs i
  remove_before [] zero i h = absurd (omega arith)
  remove_before [] (suc b) i h = refl
  remove_before (x ∷ xs) zero i h = absurd (omega arith)
  remove_before (x ∷ xs) (suc b) zero h = refl
  remove_before (x ∷ xs) (suc b) (suc i) h = remove_before xs b i (omega arith)

  pub remove_from : (xs : List X) (b j : ℕ) → b ≤ j → slice_get (remove xs b) j ≡ slice_get xs (suc j)
  remove_from [] zero j h = refl
  remove_from [] (suc b) j h = refl
  remove_from (x ∷ xs) zero j h = refl
  remove_from (x ∷ xs) (suc b) zero h = absurd (omega arith)
  remove_from (x ∷ xs) (suc b) (suc j) h = remove_from xs b j (omega arith)

  -- the place of an item where another one is lacking
  pub removed_at : (xs : List X) (b i : ℕ) → (i ≡ b → ⊥) → slice_get (remove xs b) (cond (nat_lt b i) (i - 1) i) ≡ slice_get xs i
  removed_at xs b i ne =
      elim (cases_lt b i) as (λ _. slice_get (remove xs b) (cond (nat_lt b i) (i - 1) i) ≡ slice_get xs i) [
        | inl lt ↦
            let q : suc (i - 1) ≡ i = omega arith in
            ap (λ t. slice_get (remove xs b) (cond t (i - 1) i)) (lt-ltb b i lt)
            ∙ remove_from xs b (i - 1) (omega arith) ∙ ap (slice_get xs) q
        | inr ge ↦
            let lt : i < b = (let f : i ≡ b → ⊥ = ne in omega (arith, ge)) in
            ap (λ t. slice_get (remove xs b) (cond t (i - 1) i)) (le-ltb b i (omega (arith, ge)))
            ∙ remove_before xs b i lt
      ]

  pub all_removed : (P : X → Type 0) (xs : List X) (b : ℕ) → AllByRecursion P xs → AllByRecursion P (remove xs b)
  all_removed P [] zero h = tt
  all_removed P [] (suc b) h = tt
  all_removed P (x ∷ xs) zero h = h.1
  all_removed P (x ∷ xs) (suc b) h = (h.0, all_removed P xs b h.1)

-- what holds of all that each item gives
pub all_flat : {X Y : Type 0} (P : Y → Type 0) (f : X → List Y) → ((x : X) → AllByRecursion P (f x)) → (xs : List X) → AllByRecursion P (flat_map f xs)
all_flat P f h [] = tt
all_flat P f h (x ∷ xs) = all_append P (f x) (flat_map f xs) (h x) (all_flat P f h xs)

-- a number read from a list is that of its item
pub index_is : (xs ys : List ℕ) (i j : ℕ) → slice_get xs i ≡ slice_get ys j → slice_index xs i ≡ slice_index ys j
index_is [] [] i j e = refl
index_is [] (y ∷ ys) i zero e = absurd (cc)
index_is [] (y ∷ ys) i (suc j) e = index_is [] ys i j e
index_is (x ∷ xs) [] zero j e = absurd (cc)
index_is (x ∷ xs) [] (suc i) j e = index_is xs [] i j e
index_is (x ∷ xs) (y ∷ ys) zero zero e = cc
index_is (x ∷ xs) (y ∷ ys) zero (suc j) e = index_is (x ∷ xs) ys zero j e
index_is (x ∷ xs) (y ∷ ys) (suc i) j e = index_is xs (y ∷ ys) i j e
