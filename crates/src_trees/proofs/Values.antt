-- Comparisons by the tests that trees have for them.
use Rattle.std.proofs.Common.{ℕ, ◌≡◌, ◌≤◌, ◌<◌, ◌+◌, ◌-◌, ◌%◌, ◌^◌, ◌==◌, Bool, true, false, not, nat_lt, nat_le, refl, ◌∙◌, ap, arith, eqb-true, eq-eqb}
use Rattle.std.specs.Prelude.{int_lt, int_le, ℤ}
use Rattle.std.proofs.lemmas.Bool.{ne_eqb}
use Rattle.std.proofs.lemmas.Bool.Decides.{nat_tests}
use Rattle.std.proofs.lemmas.Int.{ints}
use Rattle.std.proofs.Math.Nat.{mod-eq_of_lt, mod_self, add-mod_right}
use Rattle.rec_bits.specs.Operators.{apply2_of, bit_of}
use Rattle.rec_bits.specs.declared.operator.Op2.TheVariants.{Sub}

pub lt_not_le : (a b : ℕ) → bit_of (nat_lt b a) ≡ bit_of (not (nat_le a b))
lt_not_le a b = grind (arith, nat_tests)

pub int_lt_not_le : (a b : ℤ) → bit_of (int_lt b a) ≡ bit_of (not (int_le a b))
int_lt_not_le a b = grind (arith, ints)

-- two numbers are one where their difference is 0
pub difference_zero : (width a b : ℕ) → a < 2 ^ width → b < 2 ^ width → (apply2_of Sub width a b == 0) ≡ (a == b)
difference_zero width a b la lb = by (a == b) refl
  where
    by : (t : Bool) → (a == b) ≡ t → (apply2_of Sub width a b == 0) ≡ t
    by true e =
        let s : a ≡ b = eqb-true a b e in
        let p : a + 2 ^ width - b ≡ 2 ^ width = omega arith in
        eq-eqb _ 0 (ap (λ n. n % 2 ^ width) p ∙ mod_self (2 ^ width))
    by false e = ne_eqb _ 0 (λ z. apart (2 ^ width) la lb (λ s. let t : (a == b) ≡ true = eq-eqb a b s in absurd (cc)) z)
      where
        apart : (P : ℕ) → a < P → b < P → (a ≡ b → ⊥) → (a + P - b) % P ≡ 0 → ⊥
        apart P la lb ne z = order (nat_lt b a) refl
          where
            order : (t : Bool) → nat_lt b a ≡ t → ⊥
            order true e =
                let lt : b < a = grind (arith, nat_tests, e) in
                let p : a + P - b ≡ (a - b) + P = omega arith in
                let q : (a - b) % P ≡ a - b = mod-eq_of_lt (let r : a - b < P = omega arith in r) in
                let k = ap (λ n. n % P) p in
                omega (arith, z, q, k, add-mod_right (a - b) P)
            order false e =
                let le : a ≤ b = grind (arith, nat_tests, e) in
                let p : a + P - b ≡ P - (b - a) = omega arith in
                let q : (P - (b - a)) % P ≡ P - (b - a) = mod-eq_of_lt (let r : P - (b - a) < P = (let f : a ≡ b → ⊥ = ne in omega arith) in r) in
                let k = ap (λ n. n % P) p in
                omega (arith, z, q, k)
