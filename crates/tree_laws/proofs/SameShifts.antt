-- Laws of shifts, over trees: widen-shl, shift-wide, shift-slice, shift-shift, shr-sar, zext-shr,
-- sext-sar, sar-mul, mul-shl, double, and shifts by 0.
use Rattle.std.proofs.Common.{◌≡◌, ℕ, ◌+◌, ◌-◌, ◌*◌, ◌^◌, ◌<◌, ◌≤◌, sym, ◌∙◌, ap, arith, refl, subst}
use Rattle.rec_bits.specs.Operators.{slice_of, sext_of, sar_of, apply2_of}
use Rattle.rec_bits.specs.declared.operator.Op2.TheVariants.{Add, And, Mul, Shl, Shr, Sar}
use Rattle.net_model.specs.Exprs.{ExprModel, const, bin, slice, zext, sext, expr_width}
use Rattle.net_model.specs.Meaning.{mean}
use Rattle.sym_expr.specs.Pools.{ExprFits}
use Rattle.tree_laws.specs.Rules.{AreSame}
use Rattle.tree_laws.proofs.Low.{slice_low}
use Rattle.tree_laws.proofs.Shifts.{sar_slice, shl_shl, shr_shr, shr_slice, shr_wide, widen_shl, zext_shr}
use Rattle.tree_laws.proofs.Signs.{sar_mul, sar_sar, sar_wide, sar_zero, sext_sar, shr_sar}
use Rattle.tree_laws.proofs.Units.{double, mul_shl, unit_zero}
use Rattle.tree_laws.proofs.SameParts.{fit, some}

-- widen-shl
pub widen_shl_same : (a : ExprModel) (x k h n : ℕ) → n ≡ h + 1 → k < n → ExprFits (slice (bin Shl a (const x k)) h 0) → AreSame (slice (bin Shl a (const x k)) h 0) (bin Shl (slice a h 0) (const n k))
widen_shl_same a x k h n e l f = record {
  width = refl;
  value = λ s i p q.
      (let v : ℕ = mean a s i in
      let z : h + 1 ≡ h + 1 - 0 = omega arith in
      let low : k < h + 1 = omega (arith, l, e) in
      let le : h + 1 ≤ expr_width a = omega (arith, f.1.1) in
      slice_low (apply2_of Shl (expr_width a) v k) h ∙ widen_shl (h + 1) (expr_width a) v k low le
      ∙ ap (λ y. apply2_of Shl (h + 1) y k) (sym (slice_low v h)) ∙ ap (λ y. apply2_of Shl y (slice_of v h 0) k) z);
}

-- shift-wide
pub shr_wide_same : (a : ExprModel) (w x k h : ℕ) → w ≡ expr_width a → w ≡ h + 1 → k < w → ExprFits (zext a x) → AreSame (bin Shr a (const w k)) (slice (bin Shr (zext a x) (const x k)) h 0)
shr_wide_same a w x k h e f l g = record {
  width = (let z : h + 1 - 0 ≡ h + 1 = omega arith in sym e ∙ f ∙ sym z);
  value = λ s i p q.
      (let low : k < expr_width a = subst (λ y. k < y) e l in
      let le : expr_width a ≤ x = omega (arith, g.1.0) in
      let top : expr_width a - 1 ≡ h = omega (arith, e, f) in
      shr_wide (expr_width a) x (mean a s i) k low le (fit a s i g.0 p.0) ∙ ap (λ y. slice_of (apply2_of Shr x (mean a s i) k) y 0) top);
}

pub sar_wide_same : (a : ExprModel) (w x k h : ℕ) → w ≡ expr_width a → w ≡ h + 1 → k < w → ExprFits (sext a x) → AreSame (bin Sar a (const w k)) (slice (bin Sar (sext a x) (const x k)) h 0)
sar_wide_same a w x k h e f l g = record {
  width = (let z : h + 1 - 0 ≡ h + 1 = omega arith in sym e ∙ f ∙ sym z);
  value = λ s i p q.
      (let low : k < expr_width a = subst (λ y. k < y) e l in
      let le : expr_width a ≤ x = omega (arith, g.1.0) in
      let top : expr_width a - 1 ≡ h = omega (arith, e, f) in
      sym (sar_wide (expr_width a) x (mean a s i) k (some a g.0) le low (fit a s i g.0 p.0))
      ∙ ap (λ y. slice_of (sar_of x (sext_of (mean a s i) (expr_width a) x) k) y 0) top);
}

-- shift-slice
pub shr_slice_same : (a : ExprModel) (w k h : ℕ) → w ≡ expr_width a → w ≡ h + 1 → ExprFits (slice a h k) → AreSame (bin Shr a (const w k)) (zext (slice a h k) w)
shr_slice_same a w k h e f g = record {
  width = sym e;
  value = λ s i p q.
      (let low : k < expr_width a = omega (arith, g.1.0, g.1.1) in
      let top : expr_width a - 1 ≡ h = omega (arith, e, f) in
      shr_slice (expr_width a) (mean a s i) k low (fit a s i g.0 p.0) ∙ ap (λ y. slice_of (mean a s i) y k) top);
}

pub sar_slice_same : (a : ExprModel) (w k h : ℕ) → w ≡ expr_width a → w ≡ h + 1 → ExprFits (slice a h k) → AreSame (bin Sar a (const w k)) (sext (slice a h k) w)
sar_slice_same a w k h e f g = record {
  width = sym e;
  value = λ s i p q.
      (let low : k < expr_width a = omega (arith, g.1.0, g.1.1) in
      let top : expr_width a - 1 ≡ h = omega (arith, e, f) in
      let part : expr_width a - k ≡ h + 1 - k = omega (arith, e, f) in
      sar_slice (expr_width a) (mean a s i) k low (fit a s i g.0 p.0)
      ∙ (λ t. sext_of (slice_of (mean a s i) (top t) k) (part t) (sym e t)));
}

-- shift-shift
pub shl_shl_same : (a : ExprModel) (w j k m : ℕ) → w ≡ expr_width a → m ≡ j + k → m < w → AreSame (bin Shl (bin Shl a (const w j)) (const w k)) (bin Shl a (const w m))
shl_shl_same a w j k m e f l = record {
  width = refl;
  value = λ s i p q.
      (let low : j + k < expr_width a = omega (arith, e, f, l) in
      shl_shl (expr_width a) (mean a s i) j k low ∙ ap (apply2_of Shl (expr_width a) (mean a s i)) (sym f));
}

pub shr_shr_same : (a : ExprModel) (w j k m : ℕ) → w ≡ expr_width a → m ≡ j + k → m < w → AreSame (bin Shr (bin Shr a (const w j)) (const w k)) (bin Shr a (const w m))
shr_shr_same a w j k m e f l = record {
  width = refl;
  value = λ s i p q.
      (let low : j + k < expr_width a = omega (arith, e, f, l) in
      shr_shr (expr_width a) (mean a s i) j k low ∙ ap (apply2_of Shr (expr_width a) (mean a s i)) (sym f));
}

pub sar_sar_same : (a : ExprModel) (w j k m : ℕ) → w ≡ expr_width a → m ≡ j + k → m < w → ExprFits (bin Sar a (const w m)) → AreSame (bin Sar (bin Sar a (const w j)) (const w k)) (bin Sar a (const w m))
sar_sar_same a w j k m e f l g = record {
  width = refl;
  value = λ s i p q.
      (let low : j + k < expr_width a = omega (arith, e, f, l) in
      sar_sar (expr_width a) (mean a s i) j k (some a g.0) low (fit a s i g.0 q.0) ∙ ap (sar_of (expr_width a) (mean a s i)) (sym f));
}

-- shr-sar
pub shr_sar_same : (a : ExprModel) (w k t p m : ℕ) → w ≡ expr_width a → w ≡ k + t → p ≡ 2 ^ t → p ≡ m + 1 → k < w → ExprFits (bin Shr a (const w k))
    → AreSame (bin Shr a (const w k)) (bin And (bin Sar a (const w k)) (const w m))
shr_sar_same a w k t p m e f g h l fits = record {
  width = refl;
  value = λ s i u v.
      (let low : k < expr_width a = subst (λ y. k < y) e l in
      let rest : expr_width a - k ≡ t = omega (arith, e, f) in
      let mask : 2 ^ (expr_width a - k) - 1 ≡ m = ap (λ y. 2 ^ y - 1) rest ∙ (let z : 2 ^ t - 1 ≡ m = omega (arith, g, h) in z) in
      shr_sar (expr_width a) (mean a s i) k low (fit a s i fits.0 u.0)
      ∙ ap (apply2_of And (expr_width a) (sar_of (expr_width a) (mean a s i) k)) mask);
}

-- zext-shr, and sext-sar
pub zext_shr_same : (a : ExprModel) (w x k : ℕ) → w ≡ expr_width a → k < w → ExprFits (zext a x) → AreSame (zext (bin Shr a (const w k)) x) (bin Shr (zext a x) (const x k))
zext_shr_same a w x k e l g = record {
  width = refl;
  value = λ s i p q.
      (let low : k < expr_width a = subst (λ y. k < y) e l in
      let le : expr_width a ≤ x = omega (arith, g.1.0) in
      sym (zext_shr (expr_width a) x (mean a s i) k low le));
}

pub sext_sar_same : (a : ExprModel) (w x k : ℕ) → w ≡ expr_width a → k < w → ExprFits (sext a x) → AreSame (sext (bin Sar a (const w k)) x) (bin Sar (sext a x) (const x k))
sext_sar_same a w x k e l g = record {
  width = refl;
  value = λ s i p q.
      (let low : k < expr_width a = subst (λ y. k < y) e l in
      let le : expr_width a ≤ x = omega (arith, g.1.0) in
      sext_sar (expr_width a) x (mean a s i) k (some a g.0) le low (fit a s i g.0 q.0));
}

-- sar-mul
pub sar_mul_same : (a : ExprModel) (w x k lo hi m p : ℕ) → w ≡ expr_width a → k < w → w ≡ lo + 1 → hi ≡ lo + lo → lo ≡ m + k → p ≡ 2 ^ m
    → ExprFits (slice (bin Mul (sext a x) (const x p)) hi lo) → AreSame (bin Sar a (const w k)) (slice (bin Mul (sext a x) (const x p)) hi lo)
sar_mul_same a w x k lo hi m p e l f g h j fits = record {
  width = (let z : expr_width a ≡ hi + 1 - lo = omega (arith, e, f, g) in z);
  value = λ s i u v.
      (let y : ℕ = expr_width a in
      let low : k < expr_width a = subst (λ n. k < n) e l in
      let room : 2 * expr_width a ≤ x + 1 = omega (arith, e, f, g, fits.1.1) in
      let power : 2 ^ (expr_width a - 1 - k) ≡ p = ap (λ n. 2 ^ n) (let z : expr_width a - 1 - k ≡ m = omega (arith, e, f, h) in z) ∙ sym j in
      let top : 2 * expr_width a - 2 ≡ hi = omega (arith, e, f, g) in
      let bottom : expr_width a - 1 ≡ lo = omega (arith, e, f) in
      sar_mul (expr_width a) x (mean a s i) k (some a fits.0.0.0) room low (fit a s i fits.0.0.0 u.0)
      ∙ (λ t. slice_of (apply2_of Mul x (sext_of (mean a s i) (expr_width a) x) (power t)) (top t) (bottom t)));
}

-- mul-shl, and double
pub mul_shl_same : (a : ExprModel) (w k p : ℕ) → w ≡ expr_width a → p ≡ 2 ^ k → k < w → AreSame (bin Mul a (const w p)) (bin Shl a (const w k))
mul_shl_same a w k p e f l = record {
  width = refl;
  value = λ s i u v.
      (let low : k < expr_width a = subst (λ y. k < y) e l in
      ap (apply2_of Mul (expr_width a) (mean a s i)) f ∙ mul_shl (expr_width a) (mean a s i) k low);
}

pub double_same : (a : ExprModel) (w : ℕ) → w ≡ expr_width a → 1 < w → AreSame (bin Shl a (const w 1)) (bin Add a a)
double_same a w e l = record { width = refl; value = λ s i p q. double (expr_width a) (mean a s i) (subst (λ y. 1 < y) e l) }

-- shifts by 0
pub shl_zero_same : (a : ExprModel) (w : ℕ) → ExprFits a → AreSame (bin Shl a (const w 0)) a
shl_zero_same a w f = record { width = refl; value = λ s i p q. unit_zero Shl (expr_width a) (mean a s i) tt (some a f) (fit a s i f q) }

pub shr_zero_same : (a : ExprModel) (w : ℕ) → ExprFits a → AreSame (bin Shr a (const w 0)) a
shr_zero_same a w f = record { width = refl; value = λ s i p q. unit_zero Shr (expr_width a) (mean a s i) tt (some a f) (fit a s i f q) }

pub sar_zero_same : (a : ExprModel) (w : ℕ) → ExprFits a → AreSame (bin Sar a (const w 0)) a
sar_zero_same a w f = record { width = refl; value = λ s i p q. sar_zero (expr_width a) (mean a s i) (some a f) (fit a s i f q) }
