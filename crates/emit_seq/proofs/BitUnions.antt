-- Bits of a union.
use Rattle.std.proofs.Common.{◌≡◌, refl, ℕ, max, bit_or, ◌∙◌, arith}
use Rattle.std.specs.Int.{bit_at}
use Rattle.std.proofs.lemmas.Nat.Bits.{bit_at_or, same_from_bits}

pub or_zero : (a b k : ℕ) → bit_at a k ≡ 0 → bit_at b k ≡ 0 → bit_at (bit_or a b) k ≡ 0
or_zero a b k p q = bit_at_or a b k ∙ rw (p, q) refl

pub or_left : (a b k : ℕ) → bit_at b k ≡ 0 → bit_at (bit_or a b) k ≡ bit_at a k
or_left a b k q = omega (arith, bit_at_or a b k, q)

pub or_right : (a b k : ℕ) → bit_at a k ≡ 0 → bit_at (bit_or a b) k ≡ bit_at b k
or_right a b k p = omega (arith, bit_at_or a b k, p)

pub zero_left : (a b k : ℕ) → bit_at (bit_or a b) k ≡ 0 → bit_at a k ≡ 0
zero_left a b k e = omega (arith, bit_at_or a b k, e)

pub zero_right : (a b k : ℕ) → bit_at (bit_or a b) k ≡ 0 → bit_at b k ≡ 0
zero_right a b k e = omega (arith, bit_at_or a b k, e)

pub or_assoc : (a b c : ℕ) → bit_or (bit_or a b) c ≡ bit_or a (bit_or b c)
or_assoc a b c =
    same_from_bits (bit_or (bit_or a b) c) (bit_or a (bit_or b c))
    (λ k. omega (arith, bit_at_or (bit_or a b) c k, bit_at_or a b k, bit_at_or a (bit_or b c) k, bit_at_or b c k))

-- the four parts of two pairs
pub or_pairs : (a b c d k : ℕ) → bit_at (bit_or (bit_or a b) (bit_or c d)) k ≡ max (max (bit_at a k) (bit_at c k)) (max (bit_at b k) (bit_at d k))
or_pairs a b c d k = omega (arith, bit_at_or (bit_or a b) (bit_or c d) k, bit_at_or a b k, bit_at_or c d k)
