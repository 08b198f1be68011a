-- What a list keeps when its elements change places.
use Rattle.std.proofs.Common.{◌≡◌, ℕ, zero, suc, ◌+◌, ◌<◌, ◌≤◌, List, [], ◌∷◌, map, length, slice_index_or, All, AllPairs, Contains, IsPermutation, refl, sym, ap, subst, ◌∙◌, arith}
use Rattle.std.specs.List.{AllByRecursion, sum_by}
use Rattle.std.proofs.lemmas.List.{get_or-map, length-map}
use Rattle.std.proofs.lemmas.Grind.{get_or_moved, in_moved}
use Rattle.std.proofs.lemmas.List.Sums.{sum_by-cons}

module _ {X : Type 0} where
  pub all_moved : (P : X → Type 0) (xs ys : List X) → IsPermutation xs ys → All P xs → All P ys
  all_moved P xs ys p all k d lt =
      let at = get_or_moved xs p.moves k d p.below (subst (λ l. k < length l) p.is lt) in
      subst P (sym (ap (λ l. slice_index_or l k d) p.is ∙ at.1.2)) (all at.1.0 d at.1.1)

  contains_moved : (xs ys : List X) → IsPermutation xs ys → (x : X) → Contains xs x → Contains ys x
  contains_moved xs ys p x at = subst (λ l. Contains l x) (sym p.is) (in_moved xs p.moves at.0 x p.below at.1 (sym at.2)).1

  pub all_listed : (P : X → Type 0) (xs : List X) → AllByRecursion P xs → All P xs
  all_listed P [] all k d lt = absurd (omega (arith, lt))
  all_listed P (x ∷ xs) all zero d lt = all.0
  all_listed P (x ∷ xs) all (suc k) d lt = all_listed P xs all.1 k d (omega (arith, lt))

  -- an element that counts is counted
  one_counts : (f : X → ℕ) (xs : List X) (k : ℕ) (d : X) → k < length xs → f (slice_index_or xs k d) ≤ sum_by f xs
  one_counts f [] k d lt = absurd (omega (arith, lt))
  one_counts f (x ∷ xs) zero d lt = (let e = sum_by-cons f x xs in omega (arith, e))
  one_counts f (x ∷ xs) (suc k) d lt =
      let e = sum_by-cons f x xs in
      let r = one_counts f xs k d (omega (arith, lt)) in
      omega (arith, e, r)

  -- and two are both counted
  pub two_count : (f : X → ℕ) (xs : List X) (i j : ℕ) (d : X) → i < j → j < length xs → f (slice_index_or xs i d) + f (slice_index_or xs j d) ≤ sum_by f xs
  two_count f [] i j d less lt = absurd (omega (arith, lt))
  two_count f (x ∷ xs) i zero d less lt = absurd (omega (arith, less))
  two_count f (x ∷ xs) zero (suc j) d less lt =
      let e = sum_by-cons f x xs in
      let r = one_counts f xs j d (omega (arith, lt)) in
      omega (arith, e, r)
  two_count f (x ∷ xs) (suc i) (suc j) d less lt =
      let e = sum_by-cons f x xs in
      let r = two_count f xs i j d (omega (arith, less)) (omega (arith, lt)) in
      omega (arith, e, r)

module _ {X Y : Type 0} (f : X → Y) where
  picked : (xs : List X) (y : Y) → Contains (map f xs) y → (x : X) × Contains xs x × (f x ≡ y)
  picked [] y (k, lt, e) = absurd (omega (arith, lt))
  picked (x ∷ xs) y (zero, lt, e) = (x, (0, omega arith, refl), e)
  picked (x ∷ xs) y (suc k, lt, e) = (let r = picked xs y (k, omega (arith, lt), e) in (r.0, (suc r.1.0, omega (arith, r.1.1), r.1.2), r.2))

  placed : (xs : List X) (x : X) → Contains xs x → Contains (map f xs) (f x)
  placed [] x (k, lt, e) = absurd (omega (arith, lt))
  placed (y ∷ xs) x (zero, lt, e) = (0, omega arith, ap f e)
  placed (y ∷ xs) x (suc k, lt, e) = (let r = placed xs x (k, omega (arith, lt), e) in (suc r.0, omega (arith, r.1), r.2))

  pub images_moved : (xs ys : List X) → IsPermutation xs ys → (y : Y) → Contains (map f xs) y → Contains (map f ys) y
  images_moved xs ys p y at =
      let r = picked xs y at in
      subst (Contains (map f ys)) r.2 (placed ys r.0 (contains_moved xs ys p r.0 r.1))

  pub all_map : (P : Y → Type 0) (xs : List X) → All (λ x. P (f x)) xs → All P (map f xs)
  all_map P [] all k d lt = absurd (omega (arith, lt))
  all_map P (x ∷ xs) all k d lt =
      let within : k < length (x ∷ xs) = subst (λ n. k < n) (length-map (x ∷ xs) f) lt in
      subst P (sym (get_or-map f (x ∷ xs) k x d within)) (all k x within)

  pub pairs_map : (R : Y → Y → Type 0) (xs : List X) → AllPairs (λ a b. R (f a) (f b)) xs → AllPairs R (map f xs)
  pairs_map R [] pairs i j d less lt = absurd (omega (arith, lt))
  pairs_map R (x ∷ xs) pairs i j d less lt =
      let within : j < length (x ∷ xs) = subst (λ n. j < n) (length-map (x ∷ xs) f) lt in
      let first = sym (get_or-map f (x ∷ xs) i x d (omega (arith, less, within))) in
      let second = sym (get_or-map f (x ∷ xs) j x d within) in
      subst (R (slice_index_or (map f (x ∷ xs)) i d)) second (subst (λ y. R y (f (slice_index_or (x ∷ xs) j x))) first (pairs i j x less within))

  pub all_images : (P : Y → Type 0) (xs : List X) → AllByRecursion P (map f xs) → AllByRecursion (λ x. P (f x)) xs
  all_images P [] all = tt
  all_images P (x ∷ xs) all = (all.0, all_images P xs all.1)
