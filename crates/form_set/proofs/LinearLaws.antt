-- What it means that an expression is linear: no register but the free ones and no instruction bit
-- occurs twice.
use Rattle.std.proofs.Common.{◌≡◌, ◌↔◌, ℕ, ◌+◌, ◌≤◌, ◌==◌, ◌&&◌, min, nat_lt, nat_le, Bool, true, false, cond, refl, ap, arith, inl, inr}
use Rattle.std.specs.Prelude.{bit_and, bit_or, ◌⊎◌}
use Rattle.std.specs.Int.{bit_at}
use Rattle.std.proofs.lemmas.Bool.{eqb-true, eq-eqb}
use Rattle.std.proofs.lemmas.Nat.Bits.{bit_at_and, bit_at_or, bit_at-lt, bit_at-zero, same_from_bits}
use Rattle.rec_bits.proofs.Booleans.{and_from, both, bit_within}
use Rattle.net_model.specs.Exprs.{ExprModel, word, reg, const, read, un, bin, slice, cat, zext, sext, select, TransferModel, keep, write, write_at}
use Rattle.net_model.specs.Fields.{fields}
use Rattle.net_model.specs.Occurs.{IsLinear, bit_uses, register_uses, registers}
use Rattle.net_model.proofs.Counts.{fields_has, registers_has}
use Rattle.form_set.specs.Inner.Linear.{are_apart, is_linear, meet_in, transfer_linear}
use Rattle.form_set.proofs.Bits.{bit_cases}

-- ---- sets that meet in a third

meet_bits : (set a b : ℕ) → meet_in set a b ≡ true → (k : ℕ) → bit_at set k ≡ 0 → min (bit_at a k) (bit_at b k) ≡ 0
meet_bits set a b e k z =
    let q = ap (λ n. bit_at n k) (eqb-true (bit_or (bit_and a b) set) set e) in
    let o = bit_at_or (bit_and a b) set k in
    let n = bit_at_and a b k in
    omega (arith, q, o, n, z)

bits_meet : (set a b : ℕ) → ((k : ℕ) → bit_at set k ≡ 0 → min (bit_at a k) (bit_at b k) ≡ 0) → meet_in set a b ≡ true
bits_meet set a b h = eq-eqb (bit_or (bit_and a b) set) set (same_from_bits (bit_or (bit_and a b) set) set (λ k. by k (bit_cases set k)))
  where
    by : (k : ℕ) → (bit_at set k ≡ 0) ⊎ (bit_at set k ≡ 1) → bit_at (bit_or (bit_and a b) set) k ≡ bit_at set k
    by k (inl z) = (let o = bit_at_or (bit_and a b) set k in let n = bit_at_and a b k in let m = h k z in omega (arith, o, n, m, z))
    by k (inr e) = (let o = bit_at_or (bit_and a b) set k in let lt = bit_at-lt (bit_and a b) k in omega (arith, o, e, lt))

-- ---- two operands

-- two expressions have nothing in common: what occurs in one doesn't in the other
pub record AreApart (free : ℕ) (a b : ExprModel) : Type 0 where
  pub registers : (r : ℕ) → bit_at free r ≡ 0 → min (register_uses r a) (register_uses r b) ≡ 0
  pub bits : (k : ℕ) → min (bit_uses k a) (bit_uses k b) ≡ 0

apart_is : (free : ℕ) (a b : ExprModel) → (are_apart free a b ≡ true) ↔ AreApart free a b
apart_is free a b = (
  (λ e. let s = both (meet_in free (registers a) (registers b)) (meet_in 0 (fields a) (fields b)) e in record {
    registers = λ r z. (let m = meet_bits free (registers a) (registers b) s.0 r z in let x = registers_has r a in let y = registers_has r b in omega (arith, m, x, y));
    bits = λ k. (let m = meet_bits 0 (fields a) (fields b) s.1 k (bit_at-zero k) in let x = fields_has k a in let y = fields_has k b in omega (arith, m, x, y));
  }),
  λ h. and_from (meet_in free (registers a) (registers b)) (meet_in 0 (fields a) (fields b))
      (bits_meet free (registers a) (registers b) (λ r z. let m = h.registers r z in let x = registers_has r a in let y = registers_has r b in omega (arith, m, x, y)))
      (bits_meet 0 (fields a) (fields b) (λ k z. let m = h.bits k in let x = fields_has k a in let y = fields_has k b in omega (arith, m, x, y))),
)

once_two : (free : ℕ) (a b : ExprModel) → AreApart free a b → IsLinear free (write a) → IsLinear free (write b)
    → ((r : ℕ) → bit_at free r ≡ 0 → register_uses r a + register_uses r b ≤ 1) × ((k : ℕ) → bit_uses k a + bit_uses k b ≤ 1)
once_two free a b h x y = (
  (λ r z. let m = h.registers r z in let p = x.registers r z in let q = y.registers r z in omega (arith, m, p, q)),
  λ k. let m = h.bits k in let p = x.bits k in let q = y.bits k in omega (arith, m, p, q),
)

-- ---- linear is: at most once

pub linear_once : (free : ℕ) (t : ExprModel) → is_linear free t ≡ true → IsLinear free (write t)
linear_once free (word w) e = record { registers = λ r z. omega arith; bits = λ k. bit_within (nat_lt k w) }
linear_once free (reg r w) e = record { registers = λ q z. bit_within (r == q); bits = λ k. omega arith }
linear_once free (const w v) e = record { registers = λ r z. omega arith; bits = λ k. omega arith }
linear_once free (read space a w) e = (let h = linear_once free a e in record { registers = h.registers; bits = h.bits })
linear_once free (un o a) e = (let h = linear_once free a e in record { registers = h.registers; bits = h.bits })
linear_once free (bin o a b) e =
    (let s = both (are_apart free a b) (is_linear free a && is_linear free b) e in
    let u = both (is_linear free a) (is_linear free b) s.1 in
    let two = once_two free a b ((apart_is free a b).0 s.0) (linear_once free a u.0) (linear_once free b u.1) in record { registers = two.0; bits = two.1 })
linear_once free (slice a hi lo) e = slice_once (linear_once free a e)
  where
    slice_bits : (t : ExprModel) → ((k : ℕ) → bit_uses k t ≤ 1) → (k : ℕ) → bit_uses k (slice t hi lo) ≤ 1
    slice_bits (word w) h k = bit_within (nat_le lo k && nat_le k hi)
    slice_bits (reg r w) h k = h k
    slice_bits (const w v) h k = h k
    slice_bits (read space a w) h k = h k
    slice_bits (un o a) h k = h k
    slice_bits (bin o a b) h k = h k
    slice_bits (slice a u l) h k = h k
    slice_bits (cat a b) h k = h k
    slice_bits (zext a w) h k = h k
    slice_bits (sext a w) h k = h k
    slice_bits (select c a b) h k = h k

    slice_once : IsLinear free (write a) → IsLinear free (write (slice a hi lo))
    slice_once h = record { registers = h.registers; bits = slice_bits a h.bits }
linear_once free (cat a b) e =
    (let s = both (are_apart free a b) (is_linear free a && is_linear free b) e in
    let u = both (is_linear free a) (is_linear free b) s.1 in
    let two = once_two free a b ((apart_is free a b).0 s.0) (linear_once free a u.0) (linear_once free b u.1) in record { registers = two.0; bits = two.1 })
linear_once free (zext a w) e = (let h = linear_once free a e in record { registers = h.registers; bits = h.bits })
linear_once free (sext a w) e = (let h = linear_once free a e in record { registers = h.registers; bits = h.bits })
linear_once free (select c a b) e =
    (let s = both (are_apart free c a && (are_apart free c b && are_apart free a b)) (is_linear free c && (is_linear free a && is_linear free b)) e in
    let p = both (are_apart free c a) (are_apart free c b && are_apart free a b) s.0 in
    let q = both (are_apart free c b) (are_apart free a b) p.1 in
    let u = both (is_linear free c) (is_linear free a && is_linear free b) s.1 in
    let v = both (is_linear free a) (is_linear free b) u.1 in
    let x = (apart_is free c a).0 p.0 in
    let y = (apart_is free c b).0 q.0 in
    let z = (apart_is free a b).0 q.1 in
    let k = linear_once free c u.0 in
    let l = linear_once free a v.0 in
    let m = linear_once free b v.1 in
    record {
      registers = λ r f. omega (arith, x.registers r f, y.registers r f, z.registers r f, k.registers r f, l.registers r f, m.registers r f);
      bits = λ j. omega (arith, x.bits j, y.bits j, z.bits j, k.bits j, l.bits j, m.bits j);
    })

two_linear : (free : ℕ) (a b : ExprModel) → ((r : ℕ) → bit_at free r ≡ 0 → register_uses r a + register_uses r b ≤ 1) → ((k : ℕ) → bit_uses k a + bit_uses k b ≤ 1)
    → (IsLinear free (write a) → is_linear free a ≡ true) → (IsLinear free (write b) → is_linear free b ≡ true) → (are_apart free a b && (is_linear free a && is_linear free b)) ≡ true
two_linear free a b p q f g =
    and_from (are_apart free a b) (is_linear free a && is_linear free b)
    ((apart_is free a b).1 (record { registers = λ r z. omega (arith, p r z); bits = λ k. omega (arith, q k) }))
    (and_from (is_linear free a) (is_linear free b)
    (f (record { registers = λ r z. omega (arith, p r z); bits = λ k. omega (arith, q k) }))
    (g (record { registers = λ r z. omega (arith, p r z); bits = λ k. omega (arith, q k) })))

-- and the other way round
pub once_linear : (free : ℕ) (t : ExprModel) → IsLinear free (write t) → is_linear free t ≡ true
once_linear free (word w) h = refl
once_linear free (reg r w) h = refl
once_linear free (const w v) h = refl
once_linear free (read space a w) h = once_linear free a (record { registers = h.registers; bits = h.bits })
once_linear free (un o a) h = once_linear free a (record { registers = h.registers; bits = h.bits })
once_linear free (bin o a b) h = two_linear free a b (λ r z. h.registers r z) (λ k. h.bits k) (once_linear free a) (once_linear free b)
once_linear free (slice a hi lo) h = slice_linear a h (once_linear free a)
  where
    slice_linear : (t : ExprModel) → IsLinear free (write (slice t hi lo)) → (IsLinear free (write t) → is_linear free t ≡ true) → is_linear free t ≡ true
    slice_linear (word w) h f = refl
    slice_linear (reg r w) h f = refl
    slice_linear (const w v) h f = refl
    slice_linear (read space a w) h f = f (record { registers = h.registers; bits = h.bits })
    slice_linear (un o a) h f = f (record { registers = h.registers; bits = h.bits })
    slice_linear (bin o a b) h f = f (record { registers = h.registers; bits = h.bits })
    slice_linear (slice a u l) h f = f (record { registers = h.registers; bits = h.bits })
    slice_linear (cat a b) h f = f (record { registers = h.registers; bits = h.bits })
    slice_linear (zext a w) h f = f (record { registers = h.registers; bits = h.bits })
    slice_linear (sext a w) h f = f (record { registers = h.registers; bits = h.bits })
    slice_linear (select c a b) h f = f (record { registers = h.registers; bits = h.bits })
once_linear free (cat a b) h = two_linear free a b (λ r z. h.registers r z) (λ k. h.bits k) (once_linear free a) (once_linear free b)
once_linear free (zext a w) h = once_linear free a (record { registers = h.registers; bits = h.bits })
once_linear free (sext a w) h = once_linear free a (record { registers = h.registers; bits = h.bits })
once_linear free (select c a b) h =
    and_from (are_apart free c a && (are_apart free c b && are_apart free a b)) (is_linear free c && (is_linear free a && is_linear free b))
    (and_from (are_apart free c a) (are_apart free c b && are_apart free a b)
    ((apart_is free c a).1 (record { registers = λ r z. omega (arith, h.registers r z); bits = λ k. omega (arith, h.bits k) }))
    (and_from (are_apart free c b) (are_apart free a b)
    ((apart_is free c b).1 (record { registers = λ r z. omega (arith, h.registers r z); bits = λ k. omega (arith, h.bits k) }))
    ((apart_is free a b).1 (record { registers = λ r z. omega (arith, h.registers r z); bits = λ k. omega (arith, h.bits k) }))))
    (and_from (is_linear free c) (is_linear free a && is_linear free b)
    (once_linear free c (record { registers = λ r z. omega (arith, h.registers r z); bits = λ k. omega (arith, h.bits k) }))
    (and_from (is_linear free a) (is_linear free b)
    (once_linear free a (record { registers = λ r z. omega (arith, h.registers r z); bits = λ k. omega (arith, h.bits k) }))
    (once_linear free b (record { registers = λ r z. omega (arith, h.registers r z); bits = λ k. omega (arith, h.bits k) }))))

-- ---- transfers: address and value together

two_parts : (free : ℕ) (a e : ExprModel) → IsLinear free (write_at a e) → (are_apart free a e && (is_linear free a && is_linear free e)) ≡ true
two_parts free a e h = two_linear free a e (λ r z. h.registers r z) (λ k. h.bits k) (once_linear free a) (once_linear free e)

parts_two : (free : ℕ) (a e : ExprModel) → (are_apart free a e && (is_linear free a && is_linear free e)) ≡ true → IsLinear free (write_at a e)
parts_two free a e t =
    let s = both (are_apart free a e) (is_linear free a && is_linear free e) t in
    let u = both (is_linear free a) (is_linear free e) s.1 in
    let two = once_two free a e ((apart_is free a e).0 s.0) (linear_once free a u.0) (linear_once free e u.1) in
    record { registers = two.0; bits = two.1 }

-- what is computed says that no register but the free ones and no instruction bit occurs twice
pub linear_is : (free : ℕ) (move : TransferModel) → (transfer_linear free move ≡ true) ↔ IsLinear free move
linear_is free keep = ((λ t. record { registers = λ r z. omega arith; bits = λ k. omega arith }), λ h. refl)
linear_is free (write e) = ((λ t. linear_once free e t), λ h. once_linear free e h)
linear_is free (write_at a e) = ((λ t. parts_two free a e t), λ h. two_parts free a e h)
