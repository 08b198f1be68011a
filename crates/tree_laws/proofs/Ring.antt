-- widen-ring: the low bits of a sum, difference, product, and so on, are those of the low bits.
use Rattle.std.proofs.Common.{◌≡◌, ℕ, ◌+◌, ◌-◌, ◌*◌, ◌/◌, ◌%◌, ◌^◌, ◌<◌, ◌≤◌, sym, ◌∙◌, ap, arith, subst, ◌⊎◌, inl, inr}
use Rattle.std.proofs.Math.Nat.{mod-eq_of_lt, add-mod, mul-add-mod_self_left, div-add-mod, mod-lt, mul-le-mul_left}
use Rattle.std.proofs.lemmas.Bool.{cases_lt}
use Rattle.std.proofs.lemmas.Nat.{mul-mod, and_mod, or_mod, xor_mod, pow_pos}
use Rattle.rec_bits.specs.Operators.{apply1_of, apply2_of}
use Rattle.rec_bits.specs.declared.operator.Op1.{Op1}
use Rattle.rec_bits.specs.declared.operator.Op1.TheVariants.{Not, Neg}
use Rattle.rec_bits.specs.declared.operator.Op2.{Op2}
use Rattle.rec_bits.specs.declared.operator.Op2.TheVariants.{Add, Sub, Mul, And, Or, Xor}
use Rattle.tree_laws.proofs.Low.{low_low, pow_split}

-- the operators whose value's low bits are their value at the low bits
abbrev pub IsRing2 : Op2 → Type 0
IsRing2 Add = Unit {0}
IsRing2 Sub = Unit {0}
IsRing2 Mul = Unit {0}
IsRing2 And = Unit {0}
IsRing2 Or = Unit {0}
IsRing2 Xor = Unit {0}
IsRing2 _ = ⊥

pub ring_add : (w k a b : ℕ) → k ≤ w → apply2_of Add w a b % 2 ^ k ≡ apply2_of Add k (a % 2 ^ k) (b % 2 ^ k)
ring_add w k a b h = low_low (a + b) w k h ∙ add-mod a b (2 ^ k)

pub ring_mul : (w k a b : ℕ) → k ≤ w → apply2_of Mul w a b % 2 ^ k ≡ apply2_of Mul k (a % 2 ^ k) (b % 2 ^ k)
ring_mul w k a b h = low_low (a * b) w k h ∙ mul-mod a b (2 ^ k)

-- a difference over a modulus p that m divides, by quotients and remainders
over_sub : (m p qa ra qb rb d : ℕ) → p ≡ m * (qb + 1 + d) → rb < m → m * qa + ra + p - (m * qb + rb) ≡ m * (qa + d) + (ra + m - rb)
over_sub m p qa ra qb rb d e h = let k : p ≡ m * qb + m + m * d = omega (arith, e) in omega (arith, k, h)

over_not : (m p qa ra d : ℕ) → p ≡ m * (qa + 1 + d) → ra < m → p - 1 - (m * qa + ra) ≡ m * d + (m - 1 - ra)
over_not m p qa ra d e h = let k : p ≡ m * qa + m + m * d = omega (arith, e) in omega (arith, k, h)

-- what is left of a factor above a quotient
quotient_room : (m n b q r : ℕ) → b ≡ m * q + r → b < m * n → n ≡ q + 1 + (n - (q + 1))
quotient_room m n b q r e h = by (cases_lt q n)
  where
    by : (q < n) ⊎ (n ≤ q) → n ≡ q + 1 + (n - (q + 1))
    by (inr le) = absurd (omega (arith, mul-le-mul_left m le, e, h))
    by (inl lt) = omega (arith, lt)

pub ring_sub : (w k a b : ℕ) → k ≤ w → b < 2 ^ w → apply2_of Sub w a b % 2 ^ k ≡ apply2_of Sub k (a % 2 ^ k) (b % 2 ^ k)
ring_sub w k a b h lt =
    let m : ℕ = 2 ^ k in
    let p : ℕ = 2 ^ w in
    let n : ℕ = 2 ^ (w - k) in
    let ea : a ≡ m * (a / m) + a % m = sym (div-add-mod a m) in
    let eb : b ≡ m * (b / m) + b % m = sym (div-add-mod b m) in
    let room : n ≡ b / m + 1 + (n - (b / m + 1)) = quotient_room m n b (b / m) (b % m) eb (subst (λ x. b < x) (pow_split k w h) lt) in
    let ep : p ≡ m * (b / m + 1 + (n - (b / m + 1))) = pow_split k w h ∙ ap (λ x. m * x) room in
    let s : a + p - b ≡ m * (a / m + (n - (b / m + 1))) + (a % m + m - b % m) =
    ap (λ x. x + p - b) ea ∙ ap (λ x. m * (a / m) + a % m + p - x) eb ∙ over_sub m p (a / m) (a % m) (b / m) (b % m) (n - (b / m + 1)) ep (mod-lt b (pow_pos k)) in
    low_low (a + p - b) w k h ∙ ap (λ x. x % m) s ∙ mul-add-mod_self_left m (a / m + (n - (b / m + 1))) (a % m + m - b % m)

pub ring_neg : (w k a : ℕ) → k ≤ w → a < 2 ^ w → apply1_of Neg w a % 2 ^ k ≡ apply1_of Neg k (a % 2 ^ k)
ring_neg w k a h lt =
    let z : 0 % 2 ^ k ≡ 0 = mod-eq_of_lt (pow_pos k) in
    let l : 2 ^ w - a ≡ 0 + 2 ^ w - a = omega arith in
    let r : 0 % 2 ^ k + 2 ^ k - a % 2 ^ k ≡ 2 ^ k - a % 2 ^ k = omega (arith, z) in
    ap (λ x. x % 2 ^ w % 2 ^ k) l ∙ ring_sub w k 0 a h lt ∙ ap (λ x. x % 2 ^ k) r

pub ring_not : (w k a : ℕ) → k ≤ w → a < 2 ^ w → apply1_of Not w a % 2 ^ k ≡ apply1_of Not k (a % 2 ^ k)
ring_not w k a h lt =
    let m : ℕ = 2 ^ k in
    let n : ℕ = 2 ^ (w - k) in
    let ea : a ≡ m * (a / m) + a % m = sym (div-add-mod a m) in
    let room : n ≡ a / m + 1 + (n - (a / m + 1)) = quotient_room m n a (a / m) (a % m) ea (subst (λ x. a < x) (pow_split k w h) lt) in
    let ep : 2 ^ w ≡ m * (a / m + 1 + (n - (a / m + 1))) = pow_split k w h ∙ ap (λ x. m * x) room in
    let r : a % m < m = mod-lt a (pow_pos k) in
    let q : m - 1 - a % m < m = omega (arith, r) in
    let s : 2 ^ w - 1 - a ≡ m * (n - (a / m + 1)) + (m - 1 - a % m) =
    ap (λ x. 2 ^ w - 1 - x) ea ∙ over_not m (2 ^ w) (a / m) (a % m) (n - (a / m + 1)) ep r in
    ap (λ x. x % m) s ∙ mul-add-mod_self_left m (n - (a / m + 1)) (m - 1 - a % m) ∙ mod-eq_of_lt q

-- ---- one law for all of them

pub ring2 : (o : Op2) (w k a b : ℕ) → IsRing2 o → k ≤ w → b < 2 ^ w → apply2_of o w a b % 2 ^ k ≡ apply2_of o k (a % 2 ^ k) (b % 2 ^ k)
ring2 Add w k a b r h lt = ring_add w k a b h
ring2 Sub w k a b r h lt = ring_sub w k a b h lt
ring2 Mul w k a b r h lt = ring_mul w k a b h
ring2 And w k a b r h lt = and_mod a b k
ring2 Or w k a b r h lt = or_mod a b k
ring2 Xor w k a b r h lt = xor_mod a b k
ring2 _ w k a b r h lt = absurd r

pub ring1 : (o : Op1) (w k a : ℕ) → k ≤ w → a < 2 ^ w → apply1_of o w a % 2 ^ k ≡ apply1_of o k (a % 2 ^ k)
ring1 Not w k a h lt = ring_not w k a h lt
ring1 Neg w k a h lt = ring_neg w k a h lt
