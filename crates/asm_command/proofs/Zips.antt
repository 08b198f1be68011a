-- Lists in step.
use Rattle.std.proofs.Common.{◌≡◌, ◌⊎◌, inl, inr, ℕ, zero, suc, List, [], ◌∷◌, ◌++◌, slice_index, refl}
use Rattle.std.specs.List.{AllZip}

module _ {A B : Type 0} (R : A → B → Type 0) where
  -- an element in the middle has its other
  pub zip_middle : (front : List A) (x : A) (back : List A) (ys : List B) → AllZip R (front ++ (x ∷ back)) ys → (y : B) × R x y
  zip_middle [] x back [] h = absurd h
  zip_middle [] x back (y ∷ ys) h = (y, h.0)
  zip_middle (f ∷ front) x back [] h = absurd h
  zip_middle (f ∷ front) x back (y ∷ ys) h = zip_middle front x back ys h.1

  -- the other list is one
  pub zip_one : ((x : A) (y z : B) → R x y → R x z → y ≡ z) → (xs : List A) (ys zs : List B) → AllZip R xs ys → AllZip R xs zs → ys ≡ zs
  zip_one one [] [] [] h k = refl
  zip_one one [] [] (z ∷ zs) h k = absurd k
  zip_one one [] (y ∷ ys) zs h k = absurd h
  zip_one one (x ∷ xs) [] zs h k = absurd h
  zip_one one (x ∷ xs) (y ∷ ys) [] h k = absurd k
  zip_one one (x ∷ xs) (y ∷ ys) (z ∷ zs) h k =
      let first = one x y z h.0 k.0 in
      let rest = zip_one one xs ys zs h.1 k.1 in
      (λ j. first j ∷ rest j)

-- what stands at a place of two lists of numbers that are in step with a third: what the third has
-- there, or nothing in both
pub zip_at : {B : Type 0} (R S : ℕ → B → Type 0) (xs zs : List ℕ) (ys : List B) → AllZip R xs ys → AllZip (λ y z. S z y) ys zs → (k : ℕ)
    → ((y : B) × R (slice_index xs k) y × S (slice_index zs k) y) ⊎ (slice_index zs k ≡ slice_index xs k)
zip_at R S [] [] [] h g k = inr refl
zip_at R S [] (z ∷ zs) [] h g k = absurd g
zip_at R S [] zs (y ∷ ys) h g k = absurd h
zip_at R S (x ∷ xs) zs [] h g k = absurd h
zip_at R S (x ∷ xs) [] (y ∷ ys) h g k = absurd g
zip_at R S (x ∷ xs) (z ∷ zs) (y ∷ ys) h g zero = inl (y, h.0, g.0)
zip_at R S (x ∷ xs) (z ∷ zs) (y ∷ ys) h g (suc k) = zip_at R S xs zs ys h.1 g.1 k

-- the other way round
pub zip_turned : {A B : Type 0} (R : A → B → Type 0) (xs : List A) (ys : List B) → AllZip R xs ys → AllZip (λ y x. R x y) ys xs
zip_turned R [] [] h = tt
zip_turned R [] (y ∷ ys) h = absurd h
zip_turned R (x ∷ xs) [] h = absurd h
zip_turned R (x ∷ xs) (y ∷ ys) h = (h.0, zip_turned R xs ys h.1)
