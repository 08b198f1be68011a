-- Points with one value changed, and words with the bits of a point.
use Rattle.std.proofs.Common.{◌≡◌, ◌≢◌, ℕ, zero, suc, ◌+◌, ◌-◌, ◌*◌, ◌^◌, ◌<◌, ◌==◌, Bool, true, false, if◌then◌else◌, refl, ap, ◌∙◌, arith}
use Rattle.std.specs.Int.{bit_at}
use Rattle.std.proofs.lemmas.Nat.Bits.{bit_at_cat_low, bit_at_cat_high}
use Rattle.bit_bdd.specs.Diagrams.{Point, bits_of}
use Rattle.std.proofs.lemmas.Bool.{eqb-true, eqb-false, eq-eqb, ne_eqb}

abbrev pub put : Point → ℕ → Bool → Point
put point bit value other = if other == bit then value else point other

-- the changed bit has the value
pub put_same : (point : Point) (bit : ℕ) (value : Bool) → put point bit value bit ≡ value
put_same point bit value = ap (λ b. if b then value else point bit) (eq-eqb bit bit refl)

-- every other bit stays
pub put_other : (point : Point) (bit : ℕ) (value : Bool) (other : ℕ) → other ≢ bit → put point bit value other ≡ point other
put_other point bit value other h = ap (λ b. if b then value else point other) (ne_eqb other bit h)

-- the word below 2 ^ n with the bits of a point
pub word_of : Point → ℕ → ℕ
word_of point zero = 0
word_of point (suc n) = (if point n then 1 else 0) * 2 ^ n + word_of point n

-- that word is below 2 ^ n
pub word_of-lt : (point : Point) (n : ℕ) → word_of point n < 2 ^ n
unfolding word_of
word_of-lt point zero = omega arith
word_of-lt point (suc n) = by (point n) (word_of-lt point n)
  where
    by : (b : Bool) → word_of point n < 2 ^ n → (if b then 1 else 0) * 2 ^ n + word_of point n < 2 ^ suc n
    by true h = omega arith
    by false h = omega arith

-- a bit on top of a word
pub bits_high : (b : Bool) (n w : ℕ) → w < 2 ^ n → bits_of ((if b then 1 else 0) * 2 ^ n + w) n ≡ b
bits_high true n w h = let z : n - n ≡ 0 = omega arith in ap (λ v. v == 1) (bit_at_cat_high 1 n w n h (omega arith) ∙ ap (bit_at 1) z)
bits_high false n w h = let z : n - n ≡ 0 = omega arith in ap (λ v. v == 1) (bit_at_cat_high 0 n w n h (omega arith) ∙ ap (bit_at 0) z)

-- what is added on top leaves the lower bits
pub bits_low : (a n w k : ℕ) → k < n → bits_of (a * 2 ^ n + w) k ≡ bits_of w k
bits_low a n w k h = ap (λ v. v == 1) (bit_at_cat_low a n w k h)

-- that word has the bits of the point
pub bits_of-word_of : (point : Point) (n k : ℕ) → k < n → bits_of (word_of point n) k ≡ point k
unfolding word_of
bits_of-word_of point zero k h = absurd (omega arith)
bits_of-word_of point (suc n) k h = by (k == n) refl h (λ less. bits_of-word_of point n k less)
  where
    by : (b : Bool) → (k == n) ≡ b → k < suc n → (k < n → bits_of (word_of point n) k ≡ point k) → bits_of ((if point n then 1 else 0) * 2 ^ n + word_of point n) k ≡ point k
    by true e less rest = let s = eqb-true k n e in rw s (bits_high (point n) n (word_of point n) (word_of-lt point n))
    by false e less rest =
        let apart = eqb-false k n e in
        let h : k < n = omega (arith, apart) in
        bits_low (if point n then 1 else 0) n (word_of point n) k h ∙ rest h
