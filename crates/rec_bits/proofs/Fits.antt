-- The results of the operators fit their widths.
use Rattle.std.proofs.Common.{lit<, ◌≡◌, ℕ, ◌+◌, ◌-◌, ◌*◌, ◌/◌, ◌^◌, ◌<◌, ◌≤◌, sym, ◌∙◌, ap, arith, subst, nat_lt}
use Rattle.std.proofs.lemmas.Nat.{pow_pos, or_lt, xor_lt, and_le_l, shr_le, mod_below, mul-add-lt, pow-add}
use Rattle.std.proofs.Math.Nat.{pow-le-pow_right}
pub use Rattle.rec_bits.proofs.Booleans.{cond_below}
use Rattle.rec_bits.specs.Operators.{apply1_of, apply2_of, cat_of, sext_of, shr_of, is_negative_of, result_width}
use Rattle.rec_bits.specs.declared.operator.Op1.{Op1}
use Rattle.rec_bits.specs.declared.operator.Op1.TheVariants.{Not, Neg}
use Rattle.rec_bits.specs.declared.operator.Op2.{Op2}
use Rattle.rec_bits.specs.declared.operator.Op2.TheVariants.{Add, Sub, Mul, And, Or, Xor, Shl, Shr, Sar, Eq, Ltu, Lts}

shr_fits : (w a b : ℕ) → a < 2 ^ w → shr_of w a b < 2 ^ w
shr_fits w a b h = cond_below (nat_lt b w) (a / 2 ^ b) 0 (2 ^ w) (omega (arith, shr_le a b)) (pow_pos w)

not_fits : (w a : ℕ) → 2 ^ w - 1 - a < 2 ^ w
not_fits w a = omega (arith, pow_pos w)

pub apply2_fits : (op : Op2) (w a b : ℕ) → a < 2 ^ w → b < 2 ^ w → apply2_of op w a b < 2 ^ result_width op w
apply2_fits Add w a b h k = mod_below _ _ (pow_pos w)
apply2_fits Sub w a b h k = mod_below _ _ (pow_pos w)
apply2_fits Mul w a b h k = mod_below _ _ (pow_pos w)
apply2_fits And w a b h k = omega (arith, and_le_l a b)
apply2_fits Or w a b h k = or_lt w a b h k
apply2_fits Xor w a b h k = xor_lt w a b h k
apply2_fits Shl w a b h k = cond_below (nat_lt b w) _ 0 (2 ^ w) (mod_below _ _ (pow_pos w)) (pow_pos w)
apply2_fits Shr w a b h k = shr_fits w a b h
apply2_fits Sar w a b h k = cond_below (is_negative_of w a) _ _ (2 ^ w) (not_fits w _) (shr_fits w a b h)
apply2_fits Eq w a b h k = cond_below _ 1 0 (2 ^ 1) (omega arith) (omega arith)
apply2_fits Ltu w a b h k = cond_below _ 1 0 (2 ^ 1) (omega arith) (omega arith)
apply2_fits Lts w a b h k = cond_below _ 1 0 (2 ^ 1) (omega arith) (omega arith)

pub apply1_fits : (op : Op1) (w a : ℕ) → apply1_of op w a < 2 ^ w
apply1_fits Not w a = not_fits w a
apply1_fits Neg w a = mod_below _ _ (pow_pos w)

pub cat_below : (a b i j : ℕ) → a < 2 ^ i → b < 2 ^ j → cat_of a b j < 2 ^ (i + j)
cat_below a b i j h k =
    let e : 2 ^ j * 2 ^ i ≡ 2 ^ (i + j) = sym (pow-add 2 j i) ∙ ap (λ n. 2 ^ n) (omega arith) in
    subst (λ n. a * 2 ^ j + b < n) e (mul-add-lt a (2 ^ j) b (2 ^ i) h k)

pub sext_below : (a i j : ℕ) → i ≤ j → a < 2 ^ i → sext_of a i j < 2 ^ j
sext_below a i j h k =
    let p : 2 ^ i ≤ 2 ^ j = pow-le-pow_right (lit< tt) h in
    cond_below (is_negative_of i a) _ _ (2 ^ j) (omega arith) (omega arith)

-- room above j bits
pub room_above : (a i j : ℕ) → a < 2 ^ i → i + j ≤ 64 → a < 2 ^ (64 - j)
room_above a i j h k =
    let p : 2 ^ i ≤ 2 ^ (64 - j) = pow-le-pow_right (lit< tt) (omega arith) in
    omega arith
