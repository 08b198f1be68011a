-- comm, assoc, unit, zero, self, fold, mul-shl, double.
use Rattle.std.proofs.Common.{◌≡◌, ℕ, ◌+◌, ◌-◌, ◌*◌, ◌/◌, ◌%◌, ◌^◌, ◌<◌, ◌≤◌, sym, ◌∙◌, ap, arith, cond, ◌==◌, inl, inr}
use Rattle.std.proofs.Math.Nat.{mod-eq_of_lt, mod_self, add_comm, mul_comm, add_assoc, mul_assoc, mod-add-mod, add-mod-mod, add-mod_right, add-mod}
use Rattle.std.proofs.lemmas.Bool.{eq-eqb, ne_eqb, cases_eq, cases_lt, lt-ltb}
use Rattle.std.proofs.lemmas.Nat.{mul-mod_first, mul-mod_second, and_comm, or_comm, xor_comm, and_assoc, and_mask, pow_pos}
use Rattle.std.specs.Int.Bits.{xor_assoc, xor_self, xor_zero_r, or_zero_r, and_zero_r, and_self, or_self}
use Rattle.rec_bits.specs.Operators.{apply1_of, apply2_of, bit_of}
use Rattle.rec_bits.specs.declared.operator.Op1.TheVariants.{Not, Neg}
use Rattle.rec_bits.specs.declared.operator.Op2.{Op2}
use Rattle.rec_bits.specs.declared.operator.Op2.TheVariants.{Add, Sub, Mul, And, Or, Xor, Shl, Shr, Eq}

-- ---- comm and assoc

abbrev pub Commutes : Op2 → Type 0
Commutes Add = Unit {0}
Commutes Mul = Unit {0}
Commutes And = Unit {0}
Commutes Or = Unit {0}
Commutes Xor = Unit {0}
Commutes Eq = Unit {0}
Commutes _ = ⊥

pub comm : (o : Op2) (w a b : ℕ) → Commutes o → apply2_of o w a b ≡ apply2_of o w b a
comm Add w a b h = ap (λ n. n % 2 ^ w) (add_comm a b)
comm Mul w a b h = ap (λ n. n % 2 ^ w) (mul_comm a b)
comm And w a b h = and_comm a b
comm Or w a b h = or_comm a b
comm Xor w a b h = xor_comm a b
comm Eq w a b h = grind arith
comm _ w a b h = absurd h

pub assoc_add : (w a b c : ℕ) → apply2_of Add w (apply2_of Add w a b) c ≡ apply2_of Add w a (apply2_of Add w b c)
assoc_add w a b c = mod-add-mod (a + b) (2 ^ w) c ∙ ap (λ n. n % 2 ^ w) (add_assoc a b c) ∙ sym (add-mod-mod a (b + c) (2 ^ w))

pub assoc_mul : (w a b c : ℕ) → apply2_of Mul w (apply2_of Mul w a b) c ≡ apply2_of Mul w a (apply2_of Mul w b c)
assoc_mul w a b c = mul-mod_first (a * b) c (2 ^ w) ∙ ap (λ n. n % 2 ^ w) (mul_assoc a b c) ∙ sym (mul-mod_second a (b * c) (2 ^ w))

pub assoc_and : (w a b c : ℕ) → apply2_of And w (apply2_of And w a b) c ≡ apply2_of And w a (apply2_of And w b c)
assoc_and w a b c = and_assoc c a b

pub assoc_xor : (w a b c : ℕ) → apply2_of Xor w (apply2_of Xor w a b) c ≡ apply2_of Xor w a (apply2_of Xor w b c)
assoc_xor w a b c = xor_assoc a b c

-- ---- unit

-- the operators that keep their first operand at 0
abbrev pub HasZeroUnit : Op2 → Type 0
HasZeroUnit Add = Unit {0}
HasZeroUnit Sub = Unit {0}
HasZeroUnit Or = Unit {0}
HasZeroUnit Xor = Unit {0}
HasZeroUnit Shl = Unit {0}
HasZeroUnit Shr = Unit {0}
HasZeroUnit _ = ⊥

pub unit_zero : (o : Op2) (w a : ℕ) → HasZeroUnit o → 1 ≤ w → a < 2 ^ w → apply2_of o w a 0 ≡ a
unit_zero Add w a h p lt = let e : a + 0 ≡ a = omega arith in ap (λ n. n % 2 ^ w) e ∙ mod-eq_of_lt lt
unit_zero Sub w a h p lt = let e : a + 2 ^ w - 0 ≡ a + 2 ^ w = omega arith in ap (λ n. n % 2 ^ w) e ∙ add-mod_right a (2 ^ w) ∙ mod-eq_of_lt lt
unit_zero Or w a h p lt = or_zero_r a
unit_zero Xor w a h p lt = xor_zero_r a
unit_zero Shl w a h p lt =
    let e : a * 2 ^ 0 ≡ a = omega arith in
    ap (λ t. cond t (a * 2 ^ 0 % 2 ^ w) 0) (lt-ltb 0 w p) ∙ ap (λ n. n % 2 ^ w) e ∙ mod-eq_of_lt lt
unit_zero Shr w a h p lt =
    let e : a / 2 ^ 0 ≡ a = omega arith in
    ap (λ t. cond t (a / 2 ^ 0) 0) (lt-ltb 0 w p) ∙ e
unit_zero _ w a h p lt = absurd h

pub unit_one : (w a : ℕ) → a < 2 ^ w → apply2_of Mul w a 1 ≡ a
unit_one w a lt = let e : a * 1 ≡ a = omega arith in ap (λ n. n % 2 ^ w) e ∙ mod-eq_of_lt lt

pub unit_ones : (w a : ℕ) → a < 2 ^ w → apply2_of And w a (2 ^ w - 1) ≡ a
unit_ones w a lt = and_mask a w ∙ mod-eq_of_lt lt

-- ---- zero and self

pub zero_and : (w a : ℕ) → apply2_of And w a 0 ≡ 0
zero_and w a = and_zero_r a

pub zero_mul : (w a : ℕ) → apply2_of Mul w a 0 ≡ 0
zero_mul w a = let e : a * 0 ≡ 0 = omega arith in ap (λ n. n % 2 ^ w) e ∙ mod-eq_of_lt (pow_pos w)

pub self_sub : (w a : ℕ) → apply2_of Sub w a a ≡ 0
self_sub w a = let e : a + 2 ^ w - a ≡ 2 ^ w = omega arith in ap (λ n. n % 2 ^ w) e ∙ mod_self (2 ^ w)

pub self_xor : (w a : ℕ) → apply2_of Xor w a a ≡ 0
self_xor w a = xor_self a

pub self_and : (w a : ℕ) → apply2_of And w a a ≡ a
self_and w a = and_self a

pub self_or : (w a : ℕ) → apply2_of Or w a a ≡ a
self_or w a = or_self a

-- ---- mul-shl, double, neg

pub mul_shl : (w a k : ℕ) → k < w → apply2_of Mul w a (2 ^ k) ≡ apply2_of Shl w a k
mul_shl w a k h = sym (ap (λ t. cond t (a * 2 ^ k % 2 ^ w) 0) (lt-ltb k w h))

pub double : (w a : ℕ) → 1 < w → apply2_of Shl w a 1 ≡ apply2_of Add w a a
double w a h = let e : a * 2 ^ 1 ≡ a + a = omega arith in ap (λ t. cond t (a * 2 ^ 1 % 2 ^ w) 0) (lt-ltb 1 w h) ∙ ap (λ n. n % 2 ^ w) e

pub neg_zero_sub : (w a : ℕ) → apply1_of Neg w a ≡ apply2_of Sub w 0 a
neg_zero_sub w a = let e : 0 + 2 ^ w - a ≡ 2 ^ w - a = omega arith in sym (ap (λ n. n % 2 ^ w) e)

-- -a = ~a + 1
pub neg_not : (w a : ℕ) → a < 2 ^ w → apply1_of Neg w a ≡ apply2_of Add w (apply1_of Not w a) 1
neg_not w a lt = let e : 2 ^ w - a ≡ 2 ^ w - 1 - a + 1 = omega (arith, lt) in ap (λ n. n % 2 ^ w) e

-- ~a = -1 - a
pub not_sub : (w a : ℕ) → a < 2 ^ w → apply1_of Not w a ≡ apply2_of Sub w (2 ^ w - 1) a
not_sub w a lt =
    let e : 2 ^ w - 1 + 2 ^ w - a ≡ 2 ^ w - 1 - a + 2 ^ w = omega (arith, lt) in
    let b : 2 ^ w - 1 - a < 2 ^ w = omega (arith, lt) in
    sym (ap (λ n. n % 2 ^ w) e ∙ add-mod_right (2 ^ w - 1 - a) (2 ^ w) ∙ mod-eq_of_lt b)

-- a - b = a + (-b)
pub sub_neg : (w a b : ℕ) → b < 2 ^ w → apply2_of Sub w a b ≡ apply2_of Add w a (apply1_of Neg w b)
sub_neg w a b lt =
    let e : a + 2 ^ w - b ≡ a + (2 ^ w - b) = omega (arith, lt) in
    ap (λ n. n % 2 ^ w) e ∙ sym (add-mod-mod a (2 ^ w - b) (2 ^ w))

-- (a + b) - c = a + (b - c)
pub assoc_sub : (w a b c : ℕ) → c < 2 ^ w → apply2_of Sub w (apply2_of Add w a b) c ≡ apply2_of Add w a (apply2_of Sub w b c)
assoc_sub w a b c lt =
    let p : (a + b) % 2 ^ w + 2 ^ w - c ≡ (a + b) % 2 ^ w + (2 ^ w - c) = omega (arith, lt) in
    let q : a + b + (2 ^ w - c) ≡ a + (b + 2 ^ w - c) = omega (arith, lt) in
    ap (λ n. n % 2 ^ w) p ∙ mod-add-mod (a + b) (2 ^ w) (2 ^ w - c) ∙ ap (λ n. n % 2 ^ w) q ∙ sym (add-mod-mod a (b + 2 ^ w - c) (2 ^ w))

-- mul-split: a * (c + d) = a * c + a * d
pub mul_split : (w a c d : ℕ) → apply2_of Mul w a (apply2_of Add w c d) ≡ apply2_of Add w (apply2_of Mul w a c) (apply2_of Mul w a d)
mul_split w a c d =
    let e : a * (c + d) ≡ a * c + a * d = omega arith in
    mul-mod_second a (c + d) (2 ^ w) ∙ ap (λ n. n % 2 ^ w) e ∙ add-mod (a * c) (a * d) (2 ^ w)

-- eq-sub: a == b is a - b == 0
pub eq_sub : (w a b : ℕ) → a < 2 ^ w → b < 2 ^ w → apply2_of Eq w (apply2_of Sub w a b) 0 ≡ apply2_of Eq w a b
eq_sub w a b p q =
    elim (cases_eq a b) as (λ _. bit_of (apply2_of Sub w a b == 0) ≡ bit_of (a == b)) [
      | inl e ↦ ap bit_of (eq-eqb (apply2_of Sub w a b) 0 (ap (apply2_of Sub w a) (sym e) ∙ self_sub w a) ∙ sym (eq-eqb a b e))
      | inr n ↦ ap bit_of (ne_eqb (apply2_of Sub w a b) 0 (differ n) ∙ sym (ne_eqb a b n))
    ]
  where
    differ : (a ≡ b → ⊥) → apply2_of Sub w a b ≡ 0 → ⊥
    differ n z = elim (cases_lt a b) [
      | inl l ↦ (let s : a + 2 ^ w - b < 2 ^ w = omega (arith, l, q) in let t : a + 2 ^ w - b ≡ 0 = sym (mod-eq_of_lt s) ∙ z in omega (arith, t, q))
      | inr l ↦ (let e : a + 2 ^ w - b ≡ a - b + 2 ^ w = omega (arith, l, q) in
          let s : a - b < 2 ^ w = omega (arith, p) in
          let t : a - b ≡ 0 = sym (mod-eq_of_lt s) ∙ sym (add-mod_right (a - b) (2 ^ w)) ∙ sym (ap (λ n. n % 2 ^ w) e) ∙ z in
          n (omega (arith, t, l)))
    ]

-- a - (b + c) = (a - b) - c
pub sub_sum : (w a b c : ℕ) → b < 2 ^ w → c < 2 ^ w → apply2_of Sub w a (apply2_of Add w b c) ≡ apply2_of Sub w (apply2_of Sub w a b) c
sub_sum w a b c p q =
    let m : ℕ = 2 ^ w in
    let split : (a + 2 ^ w - b) % 2 ^ w + 2 ^ w - c ≡ (a + 2 ^ w - b) % 2 ^ w + (2 ^ w - c) = omega (arith, q) in
    let right : apply2_of Sub w (apply2_of Sub w a b) c ≡ (a + 2 ^ w - b + (2 ^ w - c)) % 2 ^ w = ap (λ n. n % 2 ^ w) split ∙ mod-add-mod (a + 2 ^ w - b) (2 ^ w) (2 ^ w - c) in
    elim (cases_lt (b + c) (2 ^ w)) as (λ _. apply2_of Sub w a (apply2_of Add w b c) ≡ apply2_of Sub w (apply2_of Sub w a b) c) [
      | inl l ↦ (let e : a + 2 ^ w - b + (2 ^ w - c) ≡ a + 2 ^ w - (b + c) + 2 ^ w = omega (arith, l, p, q) in
          ap (apply2_of Sub w a) (mod-eq_of_lt l) ∙ sym (right ∙ ap (λ n. n % 2 ^ w) e ∙ add-mod_right (a + 2 ^ w - (b + c)) (2 ^ w)))
      | inr l ↦ (let d : b + c ≡ b + c - 2 ^ w + 2 ^ w = omega (arith, l) in
          let less : b + c - 2 ^ w < 2 ^ w = omega (arith, p, q) in
          let e : a + 2 ^ w - b + (2 ^ w - c) ≡ a + 2 ^ w - (b + c - 2 ^ w) = omega (arith, l, p, q) in
          ap (apply2_of Sub w a) (ap (λ n. n % 2 ^ w) d ∙ add-mod_right (b + c - 2 ^ w) (2 ^ w) ∙ mod-eq_of_lt less)
          ∙ sym (right ∙ ap (λ n. n % 2 ^ w) e))
    ]

-- a - (b - c) = (a - b) + c
pub sub_difference : (w a b c : ℕ) → b < 2 ^ w → c < 2 ^ w → apply2_of Sub w a (apply2_of Sub w b c) ≡ apply2_of Add w (apply2_of Sub w a b) c
sub_difference w a b c p q =
    let right : apply2_of Add w (apply2_of Sub w a b) c ≡ (a + 2 ^ w - b + c) % 2 ^ w = mod-add-mod (a + 2 ^ w - b) (2 ^ w) c in
    elim (cases_lt b c) as (λ _. apply2_of Sub w a (apply2_of Sub w b c) ≡ apply2_of Add w (apply2_of Sub w a b) c) [
      | inl l ↦ (let less : b + 2 ^ w - c < 2 ^ w = omega (arith, l, q) in
          let e : a + 2 ^ w - b + c ≡ a + 2 ^ w - (b + 2 ^ w - c) + 2 ^ w = omega (arith, l, p, q) in
          ap (apply2_of Sub w a) (mod-eq_of_lt less)
          ∙ sym (right ∙ ap (λ n. n % 2 ^ w) e ∙ add-mod_right (a + 2 ^ w - (b + 2 ^ w - c)) (2 ^ w)))
      | inr l ↦ (let d : b + 2 ^ w - c ≡ b - c + 2 ^ w = omega (arith, l) in
          let less : b - c < 2 ^ w = omega (arith, p) in
          let e : a + 2 ^ w - b + c ≡ a + 2 ^ w - (b - c) = omega (arith, l, p) in
          ap (apply2_of Sub w a) (ap (λ n. n % 2 ^ w) d ∙ add-mod_right (b - c) (2 ^ w) ∙ mod-eq_of_lt less)
          ∙ sym (right ∙ ap (λ n. n % 2 ^ w) e))
    ]
