-- Projections and changes of one bit, on words.
use Rattle.std.proofs.Common.{◌≡◌, ◌≢◌, ◌↔◌, ℕ, zero, suc, ◌+◌, ◌*◌, ◌%◌, ◌^◌, ◌<◌, ◌==◌, Bool, true, false, not, if◌then◌else◌, true≢false, length, refl, sym, ap, ◌∙◌, arith, inl, inr}
use Rattle.std.specs.Int.{bit_at}
use Rattle.std.specs.Prelude.{bit_or, bit_xor}
use Rattle.std.specs.Cmp.{both_ways}
use Rattle.std.proofs.lemmas.Bool.{eqb-true, eqb-false, eq-eqb, cases_lt}
use Rattle.std.proofs.lemmas.Nat.Bits.{bit_at-lt, bit_at_above, bit_at_xor, bit_at-pow_same, bit_at-pow_other}
use Rattle.rec_bits.proofs.Bits.{set_same, set_other}
use Rattle.bit_bdd.specs.Diagrams.{Diagrams, Point, PointSet, bits_of, branch, set_of, CanReach, with_bit}
use Rattle.bit_bdd.specs.Shape.{choice, SameOutside, IsProjection, IsReducedBook}
use Rattle.bit_bdd.proofs.Points.{put, put_same, put_other, word_of, word_of-lt, bits_of-word_of}
use Rattle.bit_bdd.proofs.Canonical.{by_word}
use Rattle.bit_bdd.proofs.Least.{shifted}

-- a value of a bit is known by the test for 1
same_digit : (m n : ℕ) → m < 2 → n < 2 → (m == 1) ≡ (n == 1) → m ≡ n
same_digit zero zero hm hn e = refl
same_digit zero (suc n) hm hn e = let one : suc n ≡ 1 = omega arith in absurd (true≢false (sym (e ∙ eq-eqb (suc n) 1 one)))
same_digit (suc m) zero hm hn e = let one : suc m ≡ 1 = omega arith in absurd (true≢false (sym (eq-eqb (suc m) 1 one) ∙ e))
same_digit (suc m) (suc n) hm hn e = omega arith

same_bit : (a b k : ℕ) → bits_of a k ≡ bits_of b k → bit_at a k ≡ bit_at b k
same_bit a b k e = same_digit (bit_at a k) (bit_at b k) (bit_at-lt a k) (bit_at-lt b k) e

pub can_reach : (d : Diagrams) → IsReducedBook d.bits d.nodes → (a mask : ℕ) → a < length d.nodes → (r : PointSet) → IsProjection mask (set_of d.nodes a) r → (word : ℕ) → word < 2 ^ d.bits → (r (bits_of word) ≡ true) ↔ CanReach d a mask word
can_reach d book a mask within r is word less =
    (λ h. there ((is (bits_of word)).0 h), λ w. (is (bits_of word)).1 (bits_of w.0, λ k out. ap (λ n. n == 1) (w.2 k out), w.3))
  where
    differ : (g : Point) → SameOutside mask (bits_of word) g → (k : ℕ) → bit_at mask k ≡ 0 → bit_at (word_of g d.bits) k ≡ bit_at word k
    differ g same k out = elim (cases_lt k d.bits) [
      | inl low ↦ same_bit (word_of g d.bits) word k (bits_of-word_of g d.bits k low ∙ same k out)
      | inr high ↦ bit_at_above (word_of g d.bits) d.bits k (word_of-lt g d.bits) high ∙ sym (bit_at_above word d.bits k less high)
    ]

    there : ((g : Point) × SameOutside mask (bits_of word) g × (set_of d.nodes a g ≡ true)) → CanReach d a mask word
    there w = (word_of w.0 d.bits, word_of-lt w.0 d.bits, differ w.0 w.1, by_word d.bits d.nodes book a within w.0 ∙ w.2)

-- the mask of one bit
mask_same : (b : ℕ) → b < 64 → bit_at (1 * 2 ^ b % 18446744073709551616) b ≡ 1
mask_same b h = rw (shifted b h) (bit_at-pow_same b)

mask_other : (b k : ℕ) → b < 64 → k ≢ b → bit_at (1 * 2 ^ b % 18446744073709551616) k ≡ 0
mask_other b k h apart = rw (shifted b h) (bit_at-pow_other b k apart)

literal_at : (bit : ℕ) (value : Bool) (f : Point) → branch bit (λ _. not value) (λ _. value) f ≡ true → f bit ≡ value
literal_at bit value f h = by (f bit) value h
  where
    by : (b v : Bool) → (if b then v else not v) ≡ true → b ≡ v
    by true v h = sym h
    by false true h = h
    by false false h = refl

at_literal : (bit : ℕ) (value : Bool) (f : Point) → f bit ≡ value → branch bit (λ _. not value) (λ _. value) f ≡ true
at_literal bit value f h = ap (λ b. if b then value else not value) h ∙ by value
  where
    by : (v : Bool) → (if v then v else not v) ≡ true
    by true = refl
    by false = refl

both_true : (a b : Bool) → (if a then b else false) ≡ true → (a ≡ true) × (b ≡ true)
both_true true b h = (refl, h)
both_true false b h = absurd (true≢false (sym h))

module _ (bit : ℕ) (small : bit < 64) (value : Bool) (set : PointSet) where
  only : (f g : Point) → SameOutside (1 * 2 ^ bit % 18446744073709551616) f g → g bit ≡ value → g ≡ put f bit value
  only f g same here = λ j k. by k (k == bit) refl j
    where
      by : (k : ℕ) (b : Bool) → (k == bit) ≡ b → g k ≡ (if k == bit then value else f k)
      by k true e = let s = eqb-true k bit e in ap g s ∙ here ∙ sym (ap (λ b. if b then value else f k) e)
      by k false e = same k (mask_other bit k small (eqb-false k bit e)) ∙ sym (ap (λ b. if b then value else f k) e)

  pub fix_point : (both r empty : PointSet) → both ≡ choice (branch bit (λ _. not value) (λ _. value)) set empty → empty ≡ (λ _. false) → IsProjection (1 * 2 ^ bit % 18446744073709551616) both r → (f : Point) → r f ≡ set (put f bit value)
  fix_point both r empty both_is empty_is is f = both_ways (r f) (set (put f bit value)) (λ h. there ((is f).0 h)) (λ h. (is f).1 (put f bit value, outside, here h))
    where
      test : PointSet
      test = branch bit (λ _. not value) (λ _. value)

      value_is : (g : Point) → both g ≡ (if branch bit (λ _. not value) (λ _. value) g then set g else false)
      value_is g = (λ j. both_is j g) ∙ (λ j. if branch bit (λ _. not value) (λ _. value) g then set g else empty_is j g)

      there : ((g : Point) × SameOutside (1 * 2 ^ bit % 18446744073709551616) f g × (both g ≡ true)) → set (put f bit value) ≡ true
      there w =
          let p = both_true _ _ (sym (value_is w.0) ∙ w.2) in
          sym (ap set (only f w.0 w.1 (literal_at bit value w.0 p.0))) ∙ p.1

      outside : SameOutside (1 * 2 ^ bit % 18446744073709551616) f (put f bit value)
      outside k out = put_other f bit value k (λ e. (let none = ap (bit_at (1 * 2 ^ bit % 18446744073709551616)) (sym e) ∙ out in let one = mask_same bit small in absurd (omega (arith, none, one))))

      here : set (put f bit value) ≡ true → both (put f bit value) ≡ true
      here h = value_is (put f bit value) ∙ ap (λ b. if b then set (put f bit value) else false) (at_literal bit value (put f bit value) (put_same f bit value)) ∙ h

clear_same : (w b : ℕ) → bit_at (bit_xor (bit_or w (2 ^ b)) (2 ^ b)) b ≡ 0
clear_same w b = bit_at_xor (bit_or w (2 ^ b)) (2 ^ b) b ∙ (λ j. (set_same w b j + bit_at-pow_same b j) % 2)

clear_other : (w b k : ℕ) → k ≢ b → bit_at (bit_xor (bit_or w (2 ^ b)) (2 ^ b)) k ≡ bit_at w k
clear_other w b k apart =
    let less = bit_at-lt w k in
    let e = bit_at_xor (bit_or w (2 ^ b)) (2 ^ b) k ∙ (λ j. (set_other w b k apart j + bit_at-pow_other b k apart j) % 2) in
    e ∙ small (bit_at w k) less
  where
    small : (n : ℕ) → n < 2 → (n + 0) % 2 ≡ n
    small n h = omega arith

pub with_bit_point : (word bit : ℕ) (value : Bool) → put (bits_of word) bit value ≡ bits_of (with_bit word bit value)
with_bit_point word bit value = λ j k. by value k (k == bit) refl j
  where
    by : (value : Bool) (k : ℕ) (b : Bool) → (k == bit) ≡ b → put (bits_of word) bit value k ≡ bits_of (with_bit word bit value) k
    by true k true e = let s = eqb-true k bit e in ap (λ b. if b then true else bits_of word k) e ∙ sym (ap (λ n. n == 1) (ap (bit_at (bit_or word (2 ^ bit))) s ∙ set_same word bit))
    by false k true e = let s = eqb-true k bit e in ap (λ b. if b then false else bits_of word k) e ∙ sym (ap (λ n. n == 1) (ap (bit_at (bit_xor (bit_or word (2 ^ bit)) (2 ^ bit))) s ∙ clear_same word bit))
    by true k false e = ap (λ b. if b then true else bits_of word k) e ∙ sym (ap (λ n. n == 1) (set_other word bit k (eqb-false k bit e)))
    by false k false e = ap (λ b. if b then false else bits_of word k) e ∙ sym (ap (λ n. n == 1) (clear_other word bit k (eqb-false k bit e)))
