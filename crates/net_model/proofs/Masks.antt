-- Bits of words under masks.
use Rattle.std.proofs.Common.{◌≡◌, ℕ, ◌+◌, ◌-◌, ◌*◌, ◌/◌, ◌%◌, ◌^◌, ◌<◌, inl, inr, min, bit_and, bit_or, sym, ◌∙◌, ap, arith}
use Rattle.std.specs.Int.{bit_at}
use Rattle.std.proofs.lemmas.Bool.{cases_lt}
use Rattle.std.proofs.lemmas.Nat.{and_mask, or_comm, shl-shr}
use Rattle.std.proofs.lemmas.Nat.Bits.{bit_at_and, bit_at_or, bit_at-lt, same_from_bits, and_high}
use Rattle.std.proofs.Math.Nat.{mod-eq_of_lt}
use Rattle.rec_bits.specs.Operators.{slice_of}
use Rattle.net_model.specs.Fields.{bits_between}

-- words that are equal under the union of two masks are equal under each
pub both_left : (i j f g : ℕ) → bit_and i (bit_or f g) ≡ bit_and j (bit_or f g) → bit_and i f ≡ bit_and j f
both_left i j f g e = same_from_bits (bit_and i f) (bit_and j f) at
  where
    at : (k : ℕ) → bit_at (bit_and i f) k ≡ bit_at (bit_and j f) k
    at k =
        let a = bit_at_and i (bit_or f g) k in
        let b = bit_at_and j (bit_or f g) k in
        let o = bit_at_or f g k in
        let e = ap (λ n. bit_at n k) e in
        omega (arith, a, b, o, e, bit_at_and i f k, bit_at_and j f k, bit_at-lt i k, bit_at-lt j k, bit_at-lt f k, bit_at-lt g k)

pub both_right : (i j f g : ℕ) → bit_and i (bit_or f g) ≡ bit_and j (bit_or f g) → bit_and i g ≡ bit_and j g
both_right i j f g e = both_left i j g f (ap (bit_and i) (or_comm g f) ∙ e ∙ ap (bit_and j) (or_comm f g))

-- a word that a mask cuts to a setting is equal to it under the mask
pub masked_self : (w j f : ℕ) → bit_and w f ≡ j → bit_and w f ≡ bit_and j f
masked_self w j f e = same_from_bits (bit_and w f) (bit_and j f) at
  where
    at : (k : ℕ) → bit_at (bit_and w f) k ≡ bit_at (bit_and j f) k
    at k =
        let a : bit_at j k ≡ min (bit_at w k) (bit_at f k) = ap (λ n. bit_at n k) (sym e) ∙ bit_at_and w f k in
        omega (arith, a, bit_at_and w f k, bit_at_and j f k, bit_at-lt w k, bit_at-lt f k, bit_at-lt j k)

-- ---- a whole word, and a slice of it

pub same_low : (i j w : ℕ) → i < 2 ^ w → j < 2 ^ w → bit_and i (2 ^ w - 1) ≡ bit_and j (2 ^ w - 1) → i ≡ j
same_low i j w p q e = sym (mod-eq_of_lt p) ∙ sym (and_mask i w) ∙ e ∙ and_mask j w ∙ mod-eq_of_lt q

pub same_slice : (i j hi lo : ℕ) → bit_and i (bits_between hi lo) ≡ bit_and j (bits_between hi lo) → slice_of i hi lo ≡ slice_of j hi lo
same_slice i j hi lo e =
    elim (cases_lt (hi + 1) lo) as (λ _. slice_of i hi lo ≡ slice_of j hi lo) [
      | inl u ↦
          (let z : hi + 1 - lo ≡ 0 = omega arith in
          ap (λ m. i / 2 ^ lo % 2 ^ m) z ∙ mod_one (i / 2 ^ lo) ∙ sym (ap (λ m. j / 2 ^ lo % 2 ^ m) z ∙ mod_one (j / 2 ^ lo)))
      | inr u ↦
          (let z : hi + 1 - lo + lo ≡ hi + 1 = omega arith in
          let a : slice_of i hi lo * 2 ^ lo ≡ slice_of j hi lo * 2 ^ lo =
          sym (and_high i (hi + 1 - lo) lo) ∙ ap (λ m. bit_and i (2 ^ m - 2 ^ lo)) z ∙ e ∙ sym (ap (λ m. bit_and j (2 ^ m - 2 ^ lo)) z) ∙ and_high j (hi + 1 - lo) lo in
          sym (shl-shr (slice_of i hi lo) lo) ∙ ap (λ n. n / 2 ^ lo) a ∙ shl-shr (slice_of j hi lo) lo)
    ]
  where
    mod_one : (n : ℕ) → n % 2 ^ 0 ≡ 0
    mod_one n = omega arith
