-- Masks of a machine word, as remainders.
use Rattle.std.proofs.Common.{◌≡◌, ℕ, ◌+◌, ◌-◌, ◌*◌, ◌/◌, ◌%◌, ◌^◌, ◌<◌, ◌≤◌, sym, ◌∙◌, ap, arith, subst}
use Rattle.std.proofs.Math.Pow.{mod-mod-pow}
use Rattle.std.proofs.Math.Nat.{pow-le-pow_right, mul-add-mod_self_right}
use Rattle.std.proofs.lemmas.Nat.{and_mask, pow-add, pow_pos, shl_whole, mul-add-lt}
use Rattle.std.proofs.lemmas.Nat.Bits.{ones_shr}

-- the low bits of a word's low 64 bits
pub low_of_64 : (n w : ℕ) → w ≤ 64 → n % 2 ^ 64 % 2 ^ w ≡ n % 2 ^ w
low_of_64 n w h =
    let e : 64 - w + w ≡ 64 = omega arith in
    subst (λ k. n % 2 ^ k % 2 ^ w ≡ n % 2 ^ w) e (mod-mod-pow n (64 - w) w)

-- what `MAX >> (64 - w)` is
pub ones_of : (w : ℕ) → w ≤ 64 → (2 ^ 64 - 1) / 2 ^ (64 - w) ≡ 2 ^ w - 1
ones_of w h =
    let e : 64 - (64 - w) ≡ w = omega arith in
    let k : 64 - w ≤ 64 = omega arith in
    subst (λ n. (2 ^ 64 - 1) / 2 ^ (64 - w) ≡ 2 ^ n - 1) e (ones_shr 64 (64 - w) k)

moved : (k p q a b : ℕ) → q ≡ (k + 1) * p → b < p → a + (q - b) ≡ k * p + (a + p - b)
moved k p q a b e lt = grind arith

-- a difference below 2 ^ 64, at w bits
pub low_of_sub : (a b w : ℕ) → w ≤ 64 → b < 2 ^ w → (a + (2 ^ 64 - b)) % 2 ^ 64 % 2 ^ w ≡ (a + 2 ^ w - b) % 2 ^ w
low_of_sub a b w h lt =
    let e : 64 - w + w ≡ 64 = omega arith in
    let pos : 0 < 2 ^ (64 - w) = pow_pos (64 - w) in
    let k : 2 ^ (64 - w) - 1 + 1 ≡ 2 ^ (64 - w) = omega arith in
    let p : 2 ^ 64 ≡ (2 ^ (64 - w) - 1 + 1) * 2 ^ w =
    sym (ap (λ k. 2 ^ k) e) ∙ pow-add 2 (64 - w) w ∙ ap (λ n. n * 2 ^ w) (sym k) in
    low_of_64 (a + (2 ^ 64 - b)) w h
    ∙ ap (λ n. n % 2 ^ w) (moved (2 ^ (64 - w) - 1) (2 ^ w) (2 ^ 64) a b p lt)
    ∙ mul-add-mod_self_right (2 ^ (64 - w) - 1) (2 ^ w) (a + 2 ^ w - b)

-- what `a << k` is where its bits stay within 64
pub shl_of_small : (a k : ℕ) → k ≤ 64 → a < 2 ^ (64 - k) → a * 2 ^ k % 2 ^ 64 ≡ a * 2 ^ k
shl_of_small a k h lt = shl_whole a (64 - k) k 64 lt (omega arith)

pub cat_fits : (a k b : ℕ) → k ≤ 64 → a < 2 ^ (64 - k) → b < 2 ^ k → a * 2 ^ k + b < 2 ^ 64
cat_fits a k b h la lb =
    let e : k + (64 - k) ≡ 64 = omega arith in
    let p : 2 ^ k * 2 ^ (64 - k) ≡ 2 ^ 64 = sym (pow-add 2 k (64 - k)) ∙ ap (λ n. 2 ^ n) e in
    subst (λ n. a * 2 ^ k + b < n) p (mul-add-lt a (2 ^ k) b (2 ^ (64 - k)) la lb)

pub cat_fits_low : (a k b : ℕ) → k ≤ 64 → a < 2 ^ (64 - k) → b < 2 ^ k → a * 2 ^ k % 2 ^ 64 + b < 2 ^ 64
cat_fits_low a k b h la lb = rw (shl_of_small a k h la) (cat_fits a k b h la lb)

pub ruleset masks = (low_of_64, ones_of, low_of_sub, and_mask, shl_of_small, cat_fits_low, pow-le-pow_right)
