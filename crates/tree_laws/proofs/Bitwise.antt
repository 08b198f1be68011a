-- and, or, xor and not: as sums, with extended operands, and of one another.
use Rattle.std.proofs.Common.{◌≡◌, ℕ, ◌+◌, ◌-◌, ◌*◌, ◌%◌, ◌^◌, ◌<◌, ◌≤◌, ◌==◌, Bool, true, false, cond, ◌&&◌, ◌||◌, inl, inr, sym, ◌∙◌, ap, arith, subst, refl}
use Rattle.std.proofs.Math.Nat.{mod-eq_of_lt, add-mod_right, div-eq_of_lt-le}
use Rattle.std.proofs.lemmas.Bool.{eq-eqb, ne_eqb, cases_eq, le-leb, lt-leb}
use Rattle.std.proofs.lemmas.Nat.{pow_pos, and_mask, and_comm, or_comm, xor_comm, and_assoc, or_lt, xor_lt, and_le_l, and_le_r, and-not, and_block, or_block, xor_block}
use Rattle.std.specs.Prelude.{bit_and, bit_or, bit_xor}
use Rattle.std.specs.Int.Bits.{or_add_and, xor_add_and, and_self, or_self, xor_self, and_zero_r, or_zero_r, xor_zero_r, xor_assoc}
use Rattle.rec_bits.specs.Operators.{apply1_of, apply2_of, bit_of, is_negative_of, sext_of}
use Rattle.rec_bits.specs.declared.operator.Op1.TheVariants.{Not}
use Rattle.rec_bits.specs.declared.operator.Op2.TheVariants.{Add, Sub, And, Or, Xor, Eq}
use Rattle.rec_bits.proofs.Bits.{double_half}
use Rattle.tree_laws.proofs.Low.{pow_split}
use Rattle.tree_laws.proofs.Signs.{sign_cases}

-- ---- De Morgan, and `or` in any order

pub complement_twice : (w a : ℕ) → a < 2 ^ w → 2 ^ w - 1 - (2 ^ w - 1 - a) ≡ a
complement_twice w a h = omega (arith, h)

complement_fits : (w a : ℕ) → 2 ^ w - 1 - a < 2 ^ w
complement_fits w a = omega (arith, pow_pos w)

-- neither is where not one is
pub not_or : (w a b : ℕ) → a < 2 ^ w → b < 2 ^ w → bit_and (2 ^ w - 1 - a) (2 ^ w - 1 - b) ≡ 2 ^ w - 1 - bit_or a b
not_or w a b p q =
    let nb : ℕ = 2 ^ w - 1 - b in
    let first = and-not w a (2 ^ w - 1 - b) p (complement_fits w b) in
    let turned = and_comm a (2 ^ w - 1 - b) in
    let second = and-not w b a q p in
    let turned_back = and_comm b a in
    let whole = or_add_and a b in
    omega (arith, first, turned, second, turned_back, whole, and_le_l a b, or_lt w a b p q, p, q)

-- not both are where one isn't
pub not_and : (w a b : ℕ) → a < 2 ^ w → b < 2 ^ w → bit_or (2 ^ w - 1 - a) (2 ^ w - 1 - b) ≡ 2 ^ w - 1 - bit_and a b
not_and w a b p q =
    let whole = or_add_and (2 ^ w - 1 - a) (2 ^ w - 1 - b) in
    let neither = not_or w a b p q in
    let parts = or_add_and a b in
    omega (arith, whole, neither, parts, and_le_l a b, or_lt w a b p q, p, q)

pub or_by_and : (w a b : ℕ) → a < 2 ^ w → b < 2 ^ w → apply2_of Or w a b ≡ apply1_of Not w (apply2_of And w (apply1_of Not w a) (apply1_of Not w b))
or_by_and w a b p q = sym (ap (λ n. 2 ^ w - 1 - n) (not_or w a b p q) ∙ complement_twice w (bit_or a b) (or_lt w a b p q))

pub and_by_or : (w a b : ℕ) → a < 2 ^ w → b < 2 ^ w → apply2_of And w a b ≡ apply1_of Not w (apply2_of Or w (apply1_of Not w a) (apply1_of Not w b))
and_by_or w a b p q =
    let l : bit_and a b < 2 ^ w = omega (arith, and_le_l a b, p) in
    sym (ap (λ n. 2 ^ w - 1 - n) (not_and w a b p q) ∙ complement_twice w (bit_and a b) l)

pub assoc_or : (w a b c : ℕ) → a < 2 ^ w → b < 2 ^ w → c < 2 ^ w → apply2_of Or w (apply2_of Or w a b) c ≡ apply2_of Or w a (apply2_of Or w b c)
assoc_or w a b c p q r =
    let n : ℕ → ℕ = λ x. 2 ^ w - 1 - x in
    or_by_and w (bit_or a b) c (or_lt w a b p q) r
    ∙ ap (λ x. n (bit_and x (n c))) (sym (not_or w a b p q))
    ∙ ap n (and_assoc (n c) (n a) (n b))
    ∙ ap (λ x. n (bit_and (n a) x)) (not_or w b c q r)
    ∙ sym (or_by_and w a (bit_or b c) p (or_lt w b c q r))

-- ---- as sums and differences

-- not: ~a = a ^ -1
pub not_xor : (w a : ℕ) → a < 2 ^ w → apply1_of Not w a ≡ apply2_of Xor w a (2 ^ w - 1)
not_xor w a h =
    let m : bit_and a (2 ^ w - 1) ≡ a = and_mask a w ∙ mod-eq_of_lt h in
    omega (arith, xor_add_and a (2 ^ w - 1), m, h)

below_difference : (w p q : ℕ) → q ≤ p → p < 2 ^ w → apply2_of Sub w p q ≡ p - q
below_difference w p q h lt =
    let e : p + 2 ^ w - q ≡ p - q + 2 ^ w = omega (arith, h) in
    let l : p - q < 2 ^ w = omega (arith, lt) in
    ap (λ n. n % 2 ^ w) e ∙ add-mod_right (p - q) (2 ^ w) ∙ mod-eq_of_lt l

-- xor-or
pub xor_by_or : (w a b : ℕ) → a < 2 ^ w → b < 2 ^ w → apply2_of Xor w a b ≡ apply2_of Sub w (apply2_of Or w a b) (apply2_of And w a b)
xor_by_or w a b p q =
    let s = or_add_and a b in
    let t = xor_add_and a b in
    let le : bit_and a b ≤ bit_or a b = omega (arith, s, and_le_l a b, and_le_r a b) in
    let e : bit_or a b - bit_and a b ≡ bit_xor a b = omega (arith, s, t) in
    sym (below_difference w (bit_or a b) (bit_and a b) le (or_lt w a b p q) ∙ e)

-- or-add
pub or_by_add : (w a b : ℕ) → a < 2 ^ w → b < 2 ^ w → apply2_of Or w a b ≡ apply2_of Add w (apply2_of Sub w a (apply2_of And w a b)) b
or_by_add w a b p q =
    let s = or_add_and a b in
    let e : a - bit_and a b + b ≡ bit_or a b = omega (arith, s, and_le_l a b) in
    sym (ap (λ n. (n + b) % 2 ^ w) (below_difference w a (bit_and a b) (and_le_l a b) p) ∙ ap (λ n. n % 2 ^ w) e ∙ mod-eq_of_lt (or_lt w a b p q))

-- and-sub
pub and_by_sub : (w a b : ℕ) → a < 2 ^ w → b < 2 ^ w → apply2_of And w a b ≡ apply2_of Sub w (apply2_of Add w a b) (apply2_of Or w a b)
and_by_sub w a b p q =
    let s = or_add_and a b in
    let o : bit_or a b < 2 ^ w = or_lt w a b p q in
    let l : bit_and a b < 2 ^ w = omega (arith, and_le_l a b, p) in
    let start : (a + b) % 2 ^ w + 2 ^ w - bit_or a b ≡ (a + b) % 2 ^ w + (2 ^ w - bit_or a b) = omega (arith, o) in
    let joined : a + b + (2 ^ w - bit_or a b) ≡ bit_and a b + 2 ^ w = omega (arith, s, o) in
    sym (ap (λ n. n % 2 ^ w) start ∙ Rattle.std.proofs.Math.Nat.mod-add-mod (a + b) (2 ^ w) (2 ^ w - bit_or a b)
    ∙ ap (λ n. n % 2 ^ w) joined ∙ add-mod_right (bit_and a b) (2 ^ w) ∙ mod-eq_of_lt l)

-- eq-xor
pub eq_xor : (w a b : ℕ) → apply2_of Eq w (apply2_of Xor w a b) 0 ≡ apply2_of Eq w a b
eq_xor w a b = elim (cases_eq a b) as (λ _. bit_of (bit_xor a b == 0) ≡ bit_of (a == b)) [
  | inl e ↦ ap bit_of (eq-eqb (bit_xor a b) 0 (ap (bit_xor a) (sym e) ∙ xor_self a) ∙ sym (eq-eqb a b e))
  | inr n ↦ ap bit_of (ne_eqb (bit_xor a b) 0 (λ z. n (back z)) ∙ sym (ne_eqb a b n))
]
  where
    back : bit_xor a b ≡ 0 → a ≡ b
    back z =
        sym (xor_zero_r a) ∙ ap (bit_xor a) (sym (xor_self b)) ∙ sym (xor_assoc a b b) ∙ ap (λ n. bit_xor n b) z
        ∙ xor_comm 0 b ∙ xor_zero_r b

-- ---- one top bit, and the others below it

-- the number of a bit
abbrev pub spread : Bool → ℕ → ℕ
spread t n = cond t n 0

-- an operator that works on each bit alone: on all bits as on one, and on the bits above and below
-- apart
pub record IsBitwise (f : ℕ → ℕ → ℕ) (g : Bool → Bool → Bool) : Type 0 where
  pub alone : (s t : Bool) (n : ℕ) → f (spread s n) (spread t n) ≡ spread (g s t) n
  pub block : (k a b r s : ℕ) → r < 2 ^ k → s < 2 ^ k → f (a * 2 ^ k + r) (b * 2 ^ k + s) ≡ f a b * 2 ^ k + f r s
  pub below : (k a b : ℕ) → a < 2 ^ k → b < 2 ^ k → f a b < 2 ^ k

-- whether one of two holds
abbrev pub either : Bool → Bool → Bool
either true true = false
either true false = true
either false t = t

pub and_bitwise : IsBitwise bit_and (λ s t. s && t)
and_bitwise = record {
  alone = alone;
  block = and_block;
  below = λ k a b p q. omega (arith, and_le_l a b, p);
}
  where
    alone : (s t : Bool) (n : ℕ) → bit_and (spread s n) (spread t n) ≡ spread (s && t) n
    alone true true n = and_self n
    alone true false n = and_zero_r n
    alone false true n = and_comm 0 n ∙ and_zero_r n
    alone false false n = and_zero_r 0

pub or_bitwise : IsBitwise bit_or (λ s t. s || t)
or_bitwise = record { alone = alone; block = or_block; below = or_lt }
  where
    alone : (s t : Bool) (n : ℕ) → bit_or (spread s n) (spread t n) ≡ spread (s || t) n
    alone true true n = or_self n
    alone true false n = or_zero_r n
    alone false true n = or_comm 0 n ∙ or_zero_r n
    alone false false n = or_zero_r 0

pub xor_bitwise : IsBitwise bit_xor either
xor_bitwise = record { alone = alone; block = xor_block; below = xor_lt }
  where
    alone : (s t : Bool) (n : ℕ) → bit_xor (spread s n) (spread t n) ≡ spread (either s t) n
    alone true true n = xor_self n
    alone true false n = xor_zero_r n
    alone false true n = xor_comm 0 n ∙ xor_zero_r n
    alone false false n = xor_zero_r 0

-- a number with its top bit apart
pub record IsTop (w a : ℕ) (t : Bool) : Type 0 where
  pub rest : ℕ
  pub low : rest < 2 ^ (w - 1)
  pub is : a ≡ spread t 1 * 2 ^ (w - 1) + rest

pub top_of : (w a : ℕ) → 1 ≤ w → a < 2 ^ w → IsTop w a (is_negative_of w a)
top_of w a g lt = elim (sign_cases w a) as (λ _. IsTop w a (is_negative_of w a)) [
  | inl s ↦ subst (IsTop w a) (sym s.0) (record {
    rest = a - 2 ^ (w - 1);
    low = omega (arith, double_half w g, lt, s.1);
    is = omega (arith, s.1);
  })
  | inr s ↦ subst (IsTop w a) (sym s.0) (record { rest = a; low = s.1; is = omega arith })
]

pub top_is : (w a : ℕ) (t : Bool) → IsTop w a t → is_negative_of w a ≡ t
top_is w a true p =
    let high : 2 ^ (w - 1) ≤ a = (let e = p.is in let o : 1 * 2 ^ (w - 1) ≡ 2 ^ (w - 1) = omega arith in omega (arith, e, o)) in
    le-leb (2 ^ (w - 1)) a high
top_is w a false p =
    let low : a < 2 ^ (w - 1) = (let e = p.is in let l = p.low in let o : 0 * 2 ^ (w - 1) ≡ 0 = omega arith in omega (arith, e, l, o)) in
    lt-leb (2 ^ (w - 1)) a low

-- the top bit of a value is that of the operands' top bits
pub bitwise_top : (f : ℕ → ℕ → ℕ) (g : Bool → Bool → Bool) → IsBitwise f g → (w a b : ℕ) (s t : Bool) → IsTop w a s → IsTop w b t → IsTop w (f a b) (g s t)
bitwise_top f g o w a b s t p q = record {
  rest = f p.rest q.rest;
  low = o.below (w - 1) p.rest q.rest p.low q.low;
  is = (λ j. f (p.is j) (q.is j)) ∙ o.block (w - 1) (spread s 1) (spread t 1) p.rest q.rest p.low q.low
      ∙ ap (λ n. n * 2 ^ (w - 1) + f p.rest q.rest) (o.alone s t 1);
}

-- ext-bitwise with copies of the top bit
sext_parts : (w x a : ℕ) (t : Bool) → w ≤ x → is_negative_of w a ≡ t → sext_of a w x ≡ spread t (2 ^ (x - w) - 1) * 2 ^ w + a
sext_parts w x a true h e =
    let p : 2 ^ x ≡ 2 ^ w * 2 ^ (x - w) = pow_split w x h in
    let q : (2 ^ (x - w) - 1) * 2 ^ w ≡ 2 ^ x - 2 ^ w = parts (2 ^ w) (2 ^ (x - w)) (2 ^ x) p (pow_pos (x - w)) in
    let r : a + (2 ^ x - 2 ^ w) ≡ 2 ^ x - 2 ^ w + a = omega arith in
    ap (λ t. cond t (a + (2 ^ x - 2 ^ w)) a) e ∙ r ∙ ap (λ n. n + a) (sym q)
  where
    parts : (m n p : ℕ) → p ≡ m * n → 0 < n → (n - 1) * m ≡ p - m
    parts m n p e pos =
        let d : n ≡ n - 1 + 1 = omega (arith, pos) in
        let f : m * (n - 1 + 1) ≡ (n - 1) * m + m = omega arith in
        let g : p ≡ (n - 1) * m + m = e ∙ ap (λ k. m * k) d ∙ f in
        omega (arith, g)
sext_parts w x a false h e =
    let r : a ≡ 0 * 2 ^ w + a = omega arith in
    ap (λ t. cond t (a + (2 ^ x - 2 ^ w)) a) e ∙ r

pub sext_bitwise : (f : ℕ → ℕ → ℕ) (g : Bool → Bool → Bool) → IsBitwise f g → (w x a b : ℕ) → 1 ≤ w → w ≤ x → a < 2 ^ w → b < 2 ^ w → sext_of (f a b) w x ≡ f (sext_of a w x) (sext_of b w x)
sext_bitwise f g o w x a b one h p q =
    let s : Bool = is_negative_of w a in
    let t : Bool = is_negative_of w b in
    let ones : ℕ = 2 ^ (x - w) - 1 in
    let sign : is_negative_of w (f a b) ≡ g (is_negative_of w a) (is_negative_of w b) =
    top_is w (f a b) (g (is_negative_of w a) (is_negative_of w b)) (bitwise_top f g o w a b (is_negative_of w a) (is_negative_of w b) (top_of w a one p) (top_of w b one q)) in
    let left : sext_of a w x ≡ spread (is_negative_of w a) (2 ^ (x - w) - 1) * 2 ^ w + a = sext_parts w x a (is_negative_of w a) h refl in
    let right : sext_of b w x ≡ spread (is_negative_of w b) (2 ^ (x - w) - 1) * 2 ^ w + b = sext_parts w x b (is_negative_of w b) h refl in
    sext_parts w x (f a b) (g (is_negative_of w a) (is_negative_of w b)) h sign
    ∙ sym ((λ j. f (left j) (right j))
    ∙ o.block w (spread (is_negative_of w a) (2 ^ (x - w) - 1)) (spread (is_negative_of w b) (2 ^ (x - w) - 1)) a b p q
    ∙ ap (λ n. n * 2 ^ w + f a b) (o.alone (is_negative_of w a) (is_negative_of w b) (2 ^ (x - w) - 1)))
