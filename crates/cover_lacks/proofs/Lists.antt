-- Elements of two lists one after the other.
use Rattle.std.proofs.Common.{◌≡◌, ℕ, zero, suc, ◌+◌, List, [], ◌∷◌, ◌++◌, length, slice_get, Some, ◌⊎◌, inl, inr, arith}

module _ {X : Type 0} where
  pub split_at : (xs ys : List X) (i : ℕ) (x : X) → slice_get (xs ++ ys) i ≡ Some x → (slice_get xs i ≡ Some x) ⊎ ((j : ℕ) × (i ≡ length xs + j) × (slice_get ys j ≡ Some x))
  split_at [] ys i x h = inr (i, omega arith, h)
  split_at (y ∷ xs) ys zero x h = inl h
  split_at (y ∷ xs) ys (suc i) x h = elim (split_at xs ys i x h) [ inl a ↦ inl a | inr b ↦ inr (b.0, (let e = b.1 in omega (arith, e)), b.2) ]
