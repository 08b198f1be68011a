-- A difference modulo a width, by a subtraction that wraps round in 64 bits.
use Rattle.std.proofs.Common.{ℕ, ◌≡◌, ◌≤◌, ◌<◌, ◌+◌, ◌-◌, ◌*◌, ◌/◌, ◌%◌, ◌^◌, sym, ◌∙◌, ap, arith, Bool, true, false, min, nat_le, refl}
use Rattle.std.proofs.lemmas.Nat.{pow-add, pow_pos, mod_below}
use Rattle.std.proofs.lemmas.Bool.Decides.{nat_tests}
use Rattle.std.proofs.Math.Nat.{add-mul-mod_self_left, div-lt_iff_lt-mul, mod-eq_of_lt}
use Rattle.std.proofs.Math.Pow.{pow_mono}
use Rattle.branch_fix.specs.Rounds.{difference}

pub split : (x m : ℕ) → 0 < m → x ≡ x % m + m * (x / m)
split x m lt = omega arith

factored : (r m p q k : ℕ) → p * q ≡ m → r + m * k ≡ r + p * (q * k)
factored r m p q k e = let f = ap (λ n. n * k) e in omega (arith, f)

halves : (w : ℕ) → w ≤ 64 → 2 ^ w * 2 ^ (64 - w) ≡ 2 ^ 64
halves w le = let z : w + (64 - w) ≡ 64 = omega arith in sym (pow-add 2 w (64 - w)) ∙ ap (λ n. 2 ^ n) z

mod_low : (x w : ℕ) → w ≤ 64 → (x % 2 ^ 64) % 2 ^ w ≡ x % 2 ^ w
mod_low x w le =
    sym (ap (λ n. n % 2 ^ w) (split x (2 ^ 64) (omega arith) ∙ factored (x % 2 ^ 64) (2 ^ 64) (2 ^ w) (2 ^ (64 - w)) (x / 2 ^ 64) (halves w le)) ∙ add-mul-mod_self_left (x % 2 ^ 64) (2 ^ w) (2 ^ (64 - w) * (x / 2 ^ 64)))

-- what is left of a number that is many times another
left_over : (p q m k from to : ℕ) → 0 < p → p * q ≡ m → q ≡ from / p + 1 + k → to + (m - from) ≡ to + (p - from % p) + p * k
left_over p q m k from to some e f =
    let s = split from p some in
    let r = mod_below from p some in
    let g = ap (λ n. p * n) f in
    omega (arith, s, r, g, e)

wrapped : (w from to : ℕ) → w ≤ 64 → from < 2 ^ 64 → ((to + (2 ^ 64 - from)) % 2 ^ 64) % 2 ^ w ≡ difference w from to
wrapped w from to le lt =
    let e = halves w le in
    let few : from / 2 ^ w < 2 ^ (64 - w) = (div-lt_iff_lt-mul (pow_pos w)).1 (omega (arith, e)) in
    mod_low (to + (2 ^ 64 - from)) w le
    ∙ ap (λ n. n % 2 ^ w) (left_over (2 ^ w) (2 ^ (64 - w)) (2 ^ 64) (2 ^ (64 - w) - 1 - from / 2 ^ w) from to (pow_pos w) e (omega (arith, few)))
    ∙ add-mul-mod_self_left (to + (2 ^ w - from % 2 ^ w)) (2 ^ w) (2 ^ (64 - w) - 1 - from / 2 ^ w)

-- the low bits of a number of 64 bits are told by 64 at most
told : (x n : ℕ) → x < 2 ^ 64 → x % 2 ^ n ≡ x % 2 ^ min n 64
told x n lt = by (nat_le n 64) refl
  where
    whole : (n : ℕ) → 64 ≤ n → x % 2 ^ n ≡ x
    whole n far = let p = pow_mono {j = n} far in mod-eq_of_lt (omega (arith, p, lt))

    by : (b : Bool) → nat_le n 64 ≡ b → x % 2 ^ n ≡ x % 2 ^ min n 64
    by true q = let l : n ≤ 64 = grind (arith, nat_tests, q) in let m : n ≡ min n 64 = omega arith in ap (λ k. x % 2 ^ k) m
    by false q =
        let l : 64 ≤ n = grind (arith, nat_tests, q) in
        let m : 64 ≤ min n 64 = omega arith in
        whole n l ∙ sym (whole (min n 64) m)

-- the low bits of the subtraction, where their count is told up to a greatest one
pub distance_told : (w k most from to : ℕ) → 64 ≤ most → from < 2 ^ 64 → k ≡ min w most
    → ((to + (2 ^ 64 - from)) % 2 ^ 64) % 2 ^ k ≡ difference (min w 64) from to
distance_told w k most from to le lt e =
    let m : min k 64 ≡ min w 64 = omega arith in
    told ((to + (2 ^ 64 - from)) % 2 ^ 64) k (mod_below (to + (2 ^ 64 - from)) (2 ^ 64) (pow_pos 64))
    ∙ ap (λ n. ((to + (2 ^ 64 - from)) % 2 ^ 64) % 2 ^ n) m
    ∙ wrapped (min w 64) from to (omega arith) lt
