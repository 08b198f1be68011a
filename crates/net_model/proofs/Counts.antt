-- What occurs in an expression, by counts: a set has what occurs once or more.
use Rattle.std.proofs.Common.{◌≡◌, ℕ, ◌+◌, ◌-◌, ◌^◌, ◌<◌, ◌≤◌, ◌==◌, ◌&&◌, ◌||◌, min, nat_lt, nat_le, Bool, true, false, true≢false, cond, refl, sym, ap, subst, ◌∙◌, arith}
use Rattle.std.specs.Prelude.{bit_or}
use Rattle.std.specs.Int.{bit_at}
use Rattle.std.proofs.lemmas.Bool.{eqb-true, eq-eqb}
use Rattle.std.proofs.lemmas.Nat.Bits.{bit_at_or, bit_at-zero, bit_at-pow_same, bit_at-pow_other, bit_at_ones, bit_at_ones_above, bit_at_mask_inside, bit_at_mask_below, bit_at_mask_above}
use Rattle.net_model.specs.Exprs.{ExprModel, word, reg, const, read, un, bin, slice, cat, zext, sext, select}
use Rattle.net_model.specs.Fields.{bits_between, fields}
use Rattle.net_model.specs.Occurs.{bit_uses, occurs, register_uses, registers}

or_has : (a b k m n : ℕ) → bit_at a k ≡ min 1 m → bit_at b k ≡ min 1 n → bit_at (bit_or a b) k ≡ min 1 (m + n)
or_has a b k m n p q = (let o = bit_at_or a b k in omega (arith, o, p, q))

one_has : (r q : ℕ) → bit_at (2 ^ r) q ≡ min 1 (cond (r == q) 1 0)
one_has r q = by (r == q) refl
  where
    by : (b : Bool) → (r == q) ≡ b → bit_at (2 ^ r) q ≡ min 1 (cond b 1 0)
    by true e = subst (λ k. bit_at (2 ^ r) k ≡ 1) (eqb-true r q e) (bit_at-pow_same r)
    by false e = bit_at-pow_other r q (λ x. true≢false (sym (eq-eqb r q (sym x)) ∙ e))

pub registers_has : (q : ℕ) (t : ExprModel) → bit_at (registers t) q ≡ min 1 (register_uses q t)
registers_has q (word w) = bit_at-zero q
registers_has q (reg r w) = one_has r q
registers_has q (const w v) = bit_at-zero q
registers_has q (read space a w) = registers_has q a
registers_has q (un o a) = registers_has q a
registers_has q (bin o a b) = or_has (registers a) (registers b) q (register_uses q a) (register_uses q b) (registers_has q a) (registers_has q b)
registers_has q (slice a hi lo) = registers_has q a
registers_has q (cat a b) = or_has (registers a) (registers b) q (register_uses q a) (register_uses q b) (registers_has q a) (registers_has q b)
registers_has q (zext a w) = registers_has q a
registers_has q (sext a w) = registers_has q a
registers_has q (select c a b) =
    or_has (bit_or (registers c) (registers a)) (registers b) q (register_uses q c + register_uses q a) (register_uses q b)
    (or_has (registers c) (registers a) q (register_uses q c) (register_uses q a) (registers_has q c) (registers_has q a)) (registers_has q b)

ones_has : (w k : ℕ) → bit_at (2 ^ w - 1) k ≡ min 1 (cond (nat_lt k w) 1 0)
ones_has w k = by (nat_lt k w) refl
  where
    by : (b : Bool) → nat_lt k w ≡ b → bit_at (2 ^ w - 1) k ≡ min 1 (cond b 1 0)
    by true e = bit_at_ones w k (grind (arith, e))
    by false e = bit_at_ones_above w k (grind (arith, e))

span_has : (hi lo k : ℕ) → bit_at (bits_between hi lo) k ≡ min 1 (cond (nat_le lo k && nat_le k hi) 1 0)
span_has hi lo k = by (nat_le lo k) refl (nat_le k hi) refl
  where
    by : (a : Bool) → nat_le lo k ≡ a → (b : Bool) → nat_le k hi ≡ b → bit_at (bits_between hi lo) k ≡ min 1 (cond (a && b) 1 0)
    by true e true f = (let p : lo ≤ k = grind (arith, e) in let q : k ≤ hi = grind (arith, f) in bit_at_mask_inside lo (hi + 1) k p (omega (arith, q)))
    by true e false f = (let q : hi < k = grind (arith, f) in bit_at_mask_above lo (hi + 1) k (omega (arith, q)))
    by false e b f = bit_at_mask_below lo (hi + 1) k (grind (arith, e))

pub fields_has : (k : ℕ) (t : ExprModel) → bit_at (fields t) k ≡ min 1 (bit_uses k t)
fields_has k (word w) = ones_has w k
fields_has k (reg r w) = bit_at-zero k
fields_has k (const w v) = bit_at-zero k
fields_has k (read space a w) = fields_has k a
fields_has k (un o a) = fields_has k a
fields_has k (bin o a b) = or_has (fields a) (fields b) k (bit_uses k a) (bit_uses k b) (fields_has k a) (fields_has k b)
fields_has k (slice (word w) hi lo) = span_has hi lo k
fields_has k (slice (reg r w) hi lo) = bit_at-zero k
fields_has k (slice (const w v) hi lo) = bit_at-zero k
fields_has k (slice (read space a w) hi lo) = fields_has k (read space a w)
fields_has k (slice (un o a) hi lo) = fields_has k (un o a)
fields_has k (slice (bin o a b) hi lo) = fields_has k (bin o a b)
fields_has k (slice (slice a u l) hi lo) = fields_has k (slice a u l)
fields_has k (slice (cat a b) hi lo) = fields_has k (cat a b)
fields_has k (slice (zext a w) hi lo) = fields_has k (zext a w)
fields_has k (slice (sext a w) hi lo) = fields_has k (sext a w)
fields_has k (slice (select c a b) hi lo) = fields_has k (select c a b)
fields_has k (cat a b) = or_has (fields a) (fields b) k (bit_uses k a) (bit_uses k b) (fields_has k a) (fields_has k b)
fields_has k (zext a w) = fields_has k a
fields_has k (sext a w) = fields_has k a
fields_has k (select c a b) =
    or_has (bit_or (fields c) (fields a)) (fields b) k (bit_uses k c + bit_uses k a) (bit_uses k b)
    (or_has (fields c) (fields a) k (bit_uses k c) (bit_uses k a) (fields_has k c) (fields_has k a)) (fields_has k b)

-- ---- a register occurs where it is counted

or_uses : (a b : Bool) (m n : ℕ) → a ≡ nat_lt 0 m → b ≡ nat_lt 0 n → (a || b) ≡ nat_lt 0 (m + n)
or_uses a b m n p q = rw (p, q) (grind arith)

pub occurs_used : (q : ℕ) (t : ExprModel) → occurs q t ≡ nat_lt 0 (register_uses q t)
occurs_used q (word w) = refl
occurs_used q (reg r w) = by (r == q)
  where
    by : (b : Bool) → b ≡ nat_lt 0 (cond b 1 0)
    by true = refl
    by false = refl
occurs_used q (const w v) = refl
occurs_used q (read space a w) = occurs_used q a
occurs_used q (un o a) = occurs_used q a
occurs_used q (bin o a b) = or_uses (occurs q a) (occurs q b) (register_uses q a) (register_uses q b) (occurs_used q a) (occurs_used q b)
occurs_used q (slice a hi lo) = occurs_used q a
occurs_used q (cat a b) = or_uses (occurs q a) (occurs q b) (register_uses q a) (register_uses q b) (occurs_used q a) (occurs_used q b)
occurs_used q (zext a w) = occurs_used q a
occurs_used q (sext a w) = occurs_used q a
occurs_used q (select c a b) =
    or_uses (occurs q c) (occurs q a || occurs q b) (register_uses q c) (register_uses q a + register_uses q b) (occurs_used q c)
    (or_uses (occurs q a) (occurs q b) (register_uses q a) (register_uses q b) (occurs_used q a) (occurs_used q b))
    ∙ ap (nat_lt 0) (let s : register_uses q c + (register_uses q a + register_uses q b) ≡ register_uses q c + register_uses q a + register_uses q b = omega arith in s)
