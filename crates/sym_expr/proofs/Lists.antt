-- The first place at which a test passes.
use Rattle.std.proofs.Common.{get_or, not, Bool, true, false, cond, nat_lt, position, None, sym, ◌∙◌, ◌≡◌, ℕ, ◌<◌, List, length, slice_get, Some, refl, ap, subst, arith}
use Rattle.std.specs.List.{position_or_len}
use Rattle.std.proofs.lemmas.Bool.{ltb-true, ltb-false, not-true, not-false}
use Rattle.std.proofs.lemmas.List.Sums.{prefix_len-le-length, prefix_len_passes, prefix_len_stops}
use Rattle.std.proofs.lemmas.Option.{slice_get-get_or, slice_get_within, get_or_from_slice_get}

module _ {X : Type 0} where
  -- the item at the first place at which a test passes
  pub position_some : (test : X → Bool) (xs : List X) (d : X) (i : ℕ) → position test xs ≡ Some i → (x : X) × (slice_get xs i ≡ Some x) × (test x ≡ true)
  position_some test xs d i h = by (nat_lt n (length xs)) refl h
    where
      n : ℕ
      n = position_or_len test xs

      by : (b : Bool) → nat_lt n (length xs) ≡ b → cond b (Some n) None ≡ Some i → (x : X) × (slice_get xs i ≡ Some x) × (test x ≡ true)
      by true e k =
          let within : n < length xs = ltb-true n (length xs) e in
          let same : n ≡ i = cc in
          subst (λ j. (x : X) × (slice_get xs j ≡ Some x) × (test x ≡ true)) same
          (get_or xs n d, slice_get-get_or xs n d within, not-false _ (prefix_len_stops (λ x. not (test x)) xs d within))
      by false e k = absurd (cc)

  -- a test that passes nowhere
  pub position_none : (test : X → Bool) (xs : List X) → position test xs ≡ None → (i : ℕ) (x : X) → slice_get xs i ≡ Some x → test x ≡ false
  position_none test xs h i x at = by (nat_lt n (length xs)) refl h
    where
      n : ℕ
      n = position_or_len test xs

      by : (b : Bool) → nat_lt n (length xs) ≡ b → cond b (Some n) None ≡ None → test x ≡ false
      by true e k = absurd (cc)
      by false e k =
          let within : i < n = omega (arith, ltb-false n (length xs) e, slice_get_within xs i x at) in
          ap test (sym (get_or_from_slice_get xs i x x at)) ∙ not-true _ (prefix_len_passes (λ x. not (test x)) xs i x within)

  pub position_none_len : (test : X → Bool) (xs : List X) → position test xs ≡ None → position_or_len test xs ≡ length xs
  position_none_len test xs h = by (nat_lt n (length xs)) refl h
    where
      n : ℕ
      n = position_or_len test xs

      by : (b : Bool) → nat_lt n (length xs) ≡ b → cond b (Some n) None ≡ None → n ≡ length xs
      by true e k = absurd (cc)
      by false e k = omega (arith, ltb-false n (length xs) e, prefix_len-le-length (λ x. not (test x)) xs)
