-- The least word of a branch.
use Rattle.std.proofs.Common.{◌≡◌, ℕ, zero, suc, ◌+◌, ◌*◌, ◌/◌, ◌%◌, ◌^◌, ◌<◌, ◌≤◌, ◌==◌, Bool, true, false, if◌then◌else◌, true≢false, refl, sym, ap, ◌∙◌, arith, inl, inr}
use Rattle.std.proofs.lemmas.Bool.{cases_lt}
use Rattle.std.proofs.lemmas.Nat.{shr_split, pow_pos, one_shl}
use Rattle.std.proofs.lemmas.Nat.Bits.{bit_at_above}
use Rattle.std.proofs.Math.Nat.{mod-lt}
use Rattle.std.proofs.Math.Pow.{pow_mono}
use Rattle.bit_bdd.specs.Diagrams.{Point, PointSet, bits_of, branch}
use Rattle.bit_bdd.proofs.Points.{bits_low, bits_high}

-- a word below 2 ^ k has no bit from k on
pub no_bit : (w k b : ℕ) → w < 2 ^ k → k ≤ b → bits_of w b ≡ false
no_bit w k b small le = ap (λ v. v == 1) (bit_at_above w k b small le)

-- a word with a bit is at least that power
bit_big : (v b : ℕ) → bits_of v b ≡ true → 2 ^ b ≤ v
bit_big v b h = elim (cases_lt v (2 ^ b)) [ inl less ↦ absurd (true≢false (sym h ∙ no_bit v b b less (omega arith))) | inr more ↦ more ]

module _ (b : ℕ) (set low high : PointSet) (is : set ≡ branch b low high) where
  branch_at : (w : ℕ) (v : Bool) → bits_of w b ≡ v → set (bits_of w) ≡ (if v then high (bits_of w) else low (bits_of w))
  branch_at w v e = ap (λ s. s (bits_of w)) is ∙ ap (λ c. if c then high (bits_of w) else low (bits_of w)) e

  -- a word of the low side that does not reach the bit is in the branch
  pub low_some : (w k : ℕ) → w < 2 ^ k → k ≤ b → low (bits_of w) ≡ true → set (bits_of w) ≡ true
  low_some w k small le h = branch_at w false (no_bit w k b small le) ∙ h

  -- and where it is the least there, it is the least of the branch
  pub low_least : (w k : ℕ) → w < 2 ^ k → k ≤ b → ((v : ℕ) → low (bits_of v) ≡ true → w ≤ v) → (v : ℕ) → set (bits_of v) ≡ true → w ≤ v
  low_least w k small le least v h = by (bits_of v b) refl
    where
      by : (c : Bool) → bits_of v b ≡ c → w ≤ v
      by true e = let big = bit_big v b e in let mono : 2 ^ k ≤ 2 ^ b = pow_mono le in omega (arith, small)
      by false e = least v (sym (branch_at v false e) ∙ h)

  module _ (below : (f g : Point) → ((k : ℕ) → k < b → f k ≡ g k) → high f ≡ high g) where
    -- a power above a word leaves its lower bits
    one_more : (w k : ℕ) → k < b → bits_of (2 ^ b + w) k ≡ bits_of w k
    one_more w k h = let e : 2 ^ b + w ≡ 1 * 2 ^ b + w = omega arith in ap (λ n. bits_of n k) e ∙ bits_low 1 b w k h

    pub high_some : (w k : ℕ) → w < 2 ^ k → k ≤ b → high (bits_of w) ≡ true → set (bits_of (2 ^ b + w)) ≡ true
    high_some w k small le h =
        let mono : 2 ^ k ≤ 2 ^ b = pow_mono le in
        let e : 2 ^ b + w ≡ 1 * 2 ^ b + w = omega arith in
        branch_at (2 ^ b + w) true (ap (λ n. bits_of n b) e ∙ bits_high true b w (omega (arith, small, mono))) ∙ below (bits_of (2 ^ b + w)) (bits_of w) (one_more w) ∙ h

    -- the bits below the bit stay without those above
    rest_bits : (v k : ℕ) → k < b → bits_of (v % 2 ^ b) k ≡ bits_of v k
    rest_bits v k h = sym (bits_low (v / 2 ^ b) b (v % 2 ^ b) k h) ∙ ap (λ n. bits_of n k) (shr_split v b)

    -- what is least without the bit is least with it
    rest_le : (v w : ℕ) → 2 ^ b ≤ v → w ≤ v % 2 ^ b → 2 ^ b + w ≤ v
    rest_le v w big h =
        let split = shr_split v b in
        let less = mod-lt v (pow_pos b) in
        by (v / 2 ^ b) split less
      where
        by : (q : ℕ) → q * 2 ^ b + v % 2 ^ b ≡ v → v % 2 ^ b < 2 ^ b → 2 ^ b + w ≤ v
        by zero s less = absurd (omega (arith, s, less, big))
        by (suc q) s less = omega (arith, s, less, big, h)

    pub high_least : (w : ℕ) → ((v : ℕ) → low (bits_of v) ≡ false) → ((v : ℕ) → high (bits_of v) ≡ true → w ≤ v) → (v : ℕ) → set (bits_of v) ≡ true → 2 ^ b + w ≤ v
    high_least w none least v h = by (bits_of v b) refl
      where
        by : (c : Bool) → bits_of v b ≡ c → 2 ^ b + w ≤ v
        by false e = absurd (true≢false (sym h ∙ branch_at v false e ∙ none v))
        by true e = rest_le v w (bit_big v b e) (least (v % 2 ^ b) (below (bits_of (v % 2 ^ b)) (bits_of v) (rest_bits v) ∙ sym (branch_at v true e) ∙ h))

-- a shift of 1 within 64 bits
pub shifted : (b : ℕ) → b < 64 → 1 * 2 ^ b % 18446744073709551616 ≡ 2 ^ b
shifted b h = one_shl b 64 h

pub word_below : (w k b l : ℕ) → w < 2 ^ k → k ≤ b → b < l → w < 2 ^ l
word_below w k b l small le h = let mono : 2 ^ k ≤ 2 ^ l = pow_mono (omega arith) in omega (arith, small, mono)

pub high_below : (w k b l : ℕ) → w < 2 ^ k → k ≤ b → b < l → 2 ^ b + w < 2 ^ l
high_below w k b l small le h =
    let mono : 2 ^ k ≤ 2 ^ b = pow_mono le in
    let more : 2 ^ suc b ≤ 2 ^ l = pow_mono (omega arith) in
    omega (arith, small, mono, more)
