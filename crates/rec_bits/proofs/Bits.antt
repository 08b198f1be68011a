-- Bits of numbers, and powers of two.
use Rattle.std.proofs.Common.{◌≡◌, ◌≢◌, ◌==◌, ◌||◌, ◌+◌, ◌-◌, ◌*◌, ◌/◌, ◌%◌, ◌^◌, ◌<◌, ◌≤◌, ℕ, zero, suc, ◌⊎◌, inl, inr, min, max, lit<, bit_and, bit_or, refl, sym, ◌∙◌, ap, arith}
use Rattle.std.specs.Int.{bit_at}
use Rattle.std.proofs.Math.Nat.{pow-le-pow_right}
use Rattle.std.proofs.lemmas.Bool.{cases_lt}
use Rattle.std.proofs.lemmas.Grind.{pow_more}
use Rattle.std.proofs.lemmas.Nat.{pow-add}
use Rattle.std.proofs.lemmas.Nat.Bits.{bit_at_and, bit_at_or, bit_at-lt, bit_at-pow_same, bit_at-pow_other, same_from_bits}
use Rattle.rec_bits.specs.Operators.{slice_of}
pub use Rattle.std.specs.Int.Bits.{and_zero_l, and_zero_r}

pub zero_or_one : (n : ℕ) → n < 2 → (n ≡ 0) ⊎ (n ≡ 1)
zero_or_one n h = grind arith

pub below_next : (k n : ℕ) → k < n + 1 → (k < n) ⊎ (k ≡ n)
below_next k n h = elim (cases_lt k n) as (λ _. (k < n) ⊎ (k ≡ n)) [ inl l ↦ inl l | inr g ↦ inr (omega (arith, h, g)) ]

-- the greater of two bits is one where either is
pub max_bits : (a b : ℕ) → a < 2 → b < 2 → (max a b == 1) ≡ ((a == 1) || (b == 1))
max_bits a b h k =
    elim (zero_or_one a h) as (λ _. (max a b == 1) ≡ ((a == 1) || (b == 1))) [
      | inl e ↦ elim (zero_or_one b k) as (λ _. (max a b == 1) ≡ ((a == 1) || (b == 1))) [ inl f ↦ rw (e, f) refl | inr f ↦ rw (e, f) refl ]
      | inr e ↦ elim (zero_or_one b k) as (λ _. (max a b == 1) ≡ ((a == 1) || (b == 1))) [ inl f ↦ rw (e, f) refl | inr f ↦ rw (e, f) refl ]
    ]

-- a number whose bits are among those of a mask
pub within_mask : (n mask : ℕ) → ((k : ℕ) → bit_at mask k ≡ 0 → bit_at n k ≡ 0) → bit_and n mask ≡ n
within_mask n mask f = same_from_bits (bit_and n mask) n (λ k. bit_at_and n mask k ∙ lesser (bit_at n k) (bit_at mask k) (bit_at-lt n k) (bit_at-lt mask k) (f k))
  where
    lesser : (a b : ℕ) → a < 2 → b < 2 → (b ≡ 0 → a ≡ 0) → min a b ≡ a
    lesser a b p q g = elim (zero_or_one b q) as (λ _. min a b ≡ a) [ inl e ↦ omega (arith, e, g e) | inr e ↦ omega (arith, e, p) ]

-- a number with one bit set
pub set_same : (n k : ℕ) → bit_at (bit_or n (2 ^ k)) k ≡ 1
set_same n k = let e = bit_at_or n (2 ^ k) k in let p = bit_at-pow_same k in let less = bit_at-lt n k in omega (arith, e, p, less)

pub set_other : (n k i : ℕ) → i ≢ k → bit_at (bit_or n (2 ^ k)) i ≡ bit_at n i
set_other n k i apart = let e = bit_at_or n (2 ^ k) i in let p = bit_at-pow_other k i apart in omega (arith, e, p)

-- ---- powers

pub double_half : (w : ℕ) → 1 ≤ w → 2 ^ w ≡ 2 ^ (w - 1) + 2 ^ (w - 1)
double_half w h =
    let e : w - 1 + 1 ≡ w = omega arith in
    let p : 2 ^ (w - 1 + 1) ≡ 2 ^ (w - 1) * 2 = pow_more 2 (w - 1) in
    let q : 2 ^ (w - 1) * 2 ≡ 2 ^ (w - 1) + 2 ^ (w - 1) = omega arith in
    ap (λ n. 2 ^ n) (sym e) ∙ p ∙ q

-- what n bytes count to
pub bytes_power : (n : ℕ) → 256 ^ n ≡ 2 ^ (8 * n)
bytes_power zero = refl
bytes_power (suc n) =
    let e : suc n ≡ 1 + n = omega arith in
    let f : 8 + 8 * n ≡ 8 * suc n = omega arith in
    ap (λ k. 256 ^ k) e ∙ pow-add 256 1 n ∙ ap (λ x. 256 * x) (bytes_power n) ∙ sym (pow-add 2 8 (8 * n)) ∙ ap (λ k. 2 ^ k) f

pub below_64 : (n bits : ℕ) → bits ≤ 64 → n < 2 ^ bits → n < 2 ^ 64
below_64 n bits few lt = (let q : 2 ^ bits ≤ 2 ^ 64 = pow-le-pow_right (lit< tt) few in omega (arith, q, lt))

-- the low bits of a number
pub low_slice : (n to : ℕ) → 1 ≤ to → slice_of n (to - 1) 0 ≡ n % 2 ^ to
low_slice n to le =
    let e : to - 1 + 1 - 0 ≡ to = omega (arith, le) in
    let d : n / 2 ^ 0 ≡ n = omega arith in
    (λ j. d j % 2 ^ e j)
