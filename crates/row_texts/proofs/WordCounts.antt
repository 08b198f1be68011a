-- How many words a code of some bits has.
use Rattle.std.proofs.Common.{lit<, ◌*◌, ◌%◌, ◌≡◌, ℕ, ◌≤◌, ◌^◌, ap, ◌∙◌, arith}
use Rattle.std.proofs.Math.Nat.{pow-le-pow_right, mod-eq_of_lt}

pub one_shift : (b : ℕ) → b ≤ 16 → 1 * 2 ^ b % 18446744073709551616 ≡ 2 ^ b
one_shift b h =
    let q : 2 ^ b ≤ 2 ^ 16 = pow-le-pow_right (lit< tt) h in
    let e : 1 * 2 ^ b ≡ 2 ^ b = omega arith in
    ap (λ n. n % 18446744073709551616) e ∙ mod-eq_of_lt (omega (arith, q))
