-- Laws of slices, over trees: widen, widen-ring, slice-bitwise, slice-shift, slice-shl, slice-ext.
use Rattle.std.proofs.Common.{◌≡◌, ℕ, ◌+◌, ◌-◌, ◌%◌, ◌^◌, ◌<◌, ◌≤◌, sym, ◌∙◌, ap, arith, refl, subst}
use Rattle.std.proofs.Math.Nat.{mod-eq_of_lt}
use Rattle.rec_bits.specs.Operators.{result_width, slice_of, sext_of, apply1_of, apply2_of}
use Rattle.rec_bits.specs.declared.operator.Op1.{Op1}
use Rattle.rec_bits.specs.declared.operator.Op1.TheVariants.{Not}
use Rattle.rec_bits.specs.declared.operator.Op2.{Op2}
use Rattle.rec_bits.specs.declared.operator.Op2.TheVariants.{Add, Sub, Mul, And, Or, Xor, Shl, Shr, Sar}
use Rattle.net_model.specs.Exprs.{ExprModel, const, un, bin, slice, zext, sext, expr_width}
use Rattle.net_model.specs.Meaning.{mean}
use Rattle.sym_expr.specs.Pools.{ExprFits}
use Rattle.tree_laws.specs.Rules.{AreSame}
use Rattle.tree_laws.proofs.Low.{slice_low}
use Rattle.tree_laws.proofs.Ring.{IsRing2, ring1, ring2}
use Rattle.tree_laws.proofs.Extensions.{slice_sext, widen_sext, widen_zext}
use Rattle.tree_laws.proofs.Shifts.{slice_and, slice_not, slice_or, slice_sar, slice_shl, slice_shr, slice_xor}
use Rattle.tree_laws.proofs.Signs.{slice_sext_past, slice_zext_past}
use Rattle.tree_laws.proofs.SameParts.{fit, fit_as, some}

ring_width : (o : Op2) (w : ℕ) → IsRing2 o → w ≡ result_width o w
ring_width Add w h = refl
ring_width Sub w h = refl
ring_width Mul w h = refl
ring_width And w h = refl
ring_width Or w h = refl
ring_width Xor w h = refl
ring_width _ w h = absurd h

-- widen-ring
pub ring2_same : (o : Op2) → IsRing2 o → (a b : ExprModel) (h : ℕ) → ExprFits (slice (bin o a b) h 0) → AreSame (slice (bin o a b) h 0) (bin o (slice a h 0) (slice b h 0))
ring2_same o r a b h f = record {
  width = ring_width o (h + 1 - 0) r;
  value = λ s i p q.
      (let w : ℕ = expr_width a in
      let x : ℕ = mean a s i in
      let y : ℕ = mean b s i in
      let e : h + 1 ≡ h + 1 - 0 = omega arith in
      let back : w ≡ result_width o w = ring_width o w r in
      let le : h + 1 ≤ w = omega (arith, f.1.1, back) in
      let lt : y < 2 ^ w = fit_as b w s i f.0.2 f.0.1 p.1 in
      slice_low (apply2_of o w x y) h ∙ ring2 o w (h + 1) x y r le lt
      ∙ ap (λ n. apply2_of o (h + 1) n (y % 2 ^ (h + 1))) (sym (slice_low x h))
      ∙ ap (λ n. apply2_of o (h + 1) (slice_of x h 0) n) (sym (slice_low y h))
      ∙ ap (λ n. apply2_of o n (slice_of x h 0) (slice_of y h 0)) e);
}

pub ring1_same : (o : Op1) (a : ExprModel) (h : ℕ) → ExprFits (slice (un o a) h 0) → AreSame (slice (un o a) h 0) (un o (slice a h 0))
ring1_same o a h f = record {
  width = refl;
  value = λ s i p q.
      (let w : ℕ = expr_width a in
      let x : ℕ = mean a s i in
      let e : h + 1 ≡ h + 1 - 0 = omega arith in
      let le : h + 1 ≤ w = omega (arith, f.1.1) in
      slice_low (apply1_of o w x) h ∙ ring1 o w (h + 1) x le (fit a s i f.0 p)
      ∙ ap (apply1_of o (h + 1)) (sym (slice_low x h)) ∙ ap (λ n. apply1_of o n (slice_of x h 0)) e);
}

-- slice-bitwise
pub and_same : (a b : ExprModel) (i j : ℕ) → AreSame (slice (bin And a b) i j) (bin And (slice a i j) (slice b i j))
and_same a b i j = record { width = refl; value = λ s n p q. slice_and (expr_width a) (mean a s n) (mean b s n) i j }

pub or_same : (a b : ExprModel) (i j : ℕ) → AreSame (slice (bin Or a b) i j) (bin Or (slice a i j) (slice b i j))
or_same a b i j = record { width = refl; value = λ s n p q. slice_or (expr_width a) (mean a s n) (mean b s n) i j }

pub xor_same : (a b : ExprModel) (i j : ℕ) → AreSame (slice (bin Xor a b) i j) (bin Xor (slice a i j) (slice b i j))
xor_same a b i j = record { width = refl; value = λ s n p q. slice_xor (expr_width a) (mean a s n) (mean b s n) i j }

pub not_same : (a : ExprModel) (i j : ℕ) → ExprFits (slice (un Not a) i j) → AreSame (slice (un Not a) i j) (un Not (slice a i j))
not_same a i j f = record {
  width = refl;
  value = λ s n p q. slice_not (expr_width a) (mean a s n) i j f.1.0 f.1.1 (fit a s n f.0 p);
}

-- slice-shift, and slice-shl
moved_width : (i j k hi lo : ℕ) → hi ≡ i + k → lo ≡ j + k → i + 1 - j ≡ hi + 1 - lo
moved_width i j k hi lo e f = omega (arith, e, f)

pub slice_shr_same : (a : ExprModel) (w k i j hi lo : ℕ) → hi ≡ i + k → lo ≡ j + k → ExprFits (slice (bin Shr a (const w k)) i j) → ExprFits (slice a hi lo)
    → AreSame (slice (bin Shr a (const w k)) i j) (slice a hi lo)
slice_shr_same a w k i j hi lo e l f g = record {
  width = moved_width i j k hi lo e l;
  value = λ s n p q.
      (let inside : i + k < expr_width a = subst (λ x. x < expr_width a) e g.1.1 in
      slice_shr (expr_width a) (mean a s n) k i j f.1.0 inside ∙ (λ t. slice_of (mean a s n) (sym e t) (sym l t)));
}

pub slice_sar_same : (a : ExprModel) (w k i j hi lo : ℕ) → hi ≡ i + k → lo ≡ j + k → ExprFits (slice (bin Sar a (const w k)) i j) → ExprFits (slice a hi lo)
    → AreSame (slice (bin Sar a (const w k)) i j) (slice a hi lo)
slice_sar_same a w k i j hi lo e l f g = record {
  width = moved_width i j k hi lo e l;
  value = λ s n p q.
      (let inside : i + k < expr_width a = subst (λ x. x < expr_width a) e g.1.1 in
      slice_sar (expr_width a) (mean a s n) k i j f.1.0 inside (fit a s n g.0 q) ∙ (λ t. slice_of (mean a s n) (sym e t) (sym l t)));
}

pub slice_shl_same : (a : ExprModel) (w k i j hi lo : ℕ) → i ≡ hi + k → j ≡ lo + k → ExprFits (slice (bin Shl a (const w k)) i j) → ExprFits (slice a hi lo)
    → AreSame (slice (bin Shl a (const w k)) i j) (slice a hi lo)
slice_shl_same a w k i j hi lo e l f g = record {
  width = sym (moved_width hi lo k i j e l);
  value = λ s n p q.
      (let top : i - k ≡ hi = omega (arith, e) in
      let low : j - k ≡ lo = omega (arith, l) in
      let past : k ≤ j = omega (arith, l) in
      slice_shl (expr_width a) (mean a s n) k i j past f.1.0 f.1.1 ∙ (λ t. slice_of (mean a s n) (top t) (low t)));
}

-- slice-ext
pub slice_zext_same : (a : ExprModel) (x i j : ℕ) → AreSame (slice (zext a x) i j) (slice a i j)
slice_zext_same a x i j = record { width = refl; value = λ s n p q. refl }

pub slice_sext_same : (a : ExprModel) (x i j : ℕ) → ExprFits (slice (sext a x) i j) → ExprFits (slice a i j) → AreSame (slice (sext a x) i j) (slice a i j)
slice_sext_same a x i j f g = record {
  width = refl;
  value = λ s n p q. (let le : expr_width a ≤ x = omega (arith, f.0.1.0) in slice_sext (mean a s n) (expr_width a) x i j le f.1.0 g.1.1);
}

pub slice_zext_past_same : (a : ExprModel) (x i n : ℕ) → n ≡ i + 1 → ExprFits (zext a n) → AreSame (slice (zext a x) i 0) (zext a n)
slice_zext_past_same a x i n e g = record {
  width = (let z : i + 1 - 0 ≡ i + 1 = omega arith in z ∙ sym e);
  value = λ s m p q. (let le : expr_width a ≤ i = omega (arith, e, g.1.0) in slice_zext_past (mean a s m) (expr_width a) i le (fit a s m g.0 q));
}

pub slice_sext_past_same : (a : ExprModel) (x i n : ℕ) → n ≡ i + 1 → ExprFits (slice (sext a x) i 0) → ExprFits (sext a n) → AreSame (slice (sext a x) i 0) (sext a n)
slice_sext_past_same a x i n e f g = record {
  width = (let z : i + 1 - 0 ≡ i + 1 = omega arith in z ∙ sym e);
  value = λ s m p q.
      (let le : expr_width a ≤ i = omega (arith, e, g.1.0) in
      slice_sext_past (mean a s m) (expr_width a) x i (some a g.0) le f.1.1 (fit a s m g.0 q) ∙ ap (λ y. sext_of (mean a s m) (expr_width a) y) (sym e));
}

-- widen
pub widen_zext_same : (a : ExprModel) (x h w : ℕ) → w ≡ expr_width a → w ≡ h + 1 → ExprFits a → AreSame (slice (zext a x) h 0) a
widen_zext_same a x h w e f fits = record {
  width = (let z : h + 1 - 0 ≡ h + 1 = omega arith in z ∙ sym f ∙ e);
  value = λ s n p q. widen_zext (mean a s n) h (fit_as a (h + 1) s n (sym e ∙ f) fits q);
}

pub widen_sext_same : (a : ExprModel) (x h w : ℕ) → w ≡ expr_width a → w ≡ h + 1 → ExprFits (slice (sext a x) h 0) → ExprFits a → AreSame (slice (sext a x) h 0) a
widen_sext_same a x h w e f g fits = record {
  width = (let z : h + 1 - 0 ≡ h + 1 = omega arith in z ∙ sym f ∙ e);
  value = λ s n p q.
      (let same : expr_width a ≡ h + 1 = sym e ∙ f in
      ap (λ v. slice_of (sext_of (mean a s n) v x) h 0) same ∙ widen_sext (mean a s n) h x g.1.1 (fit_as a (h + 1) s n same fits q));
}

-- all bits
pub whole_same : (a : ExprModel) (h w : ℕ) → w ≡ expr_width a → w ≡ h + 1 → ExprFits a → AreSame (slice a h 0) a
whole_same a h w e f fits = record {
  width = (let z : h + 1 - 0 ≡ h + 1 = omega arith in z ∙ sym f ∙ e);
  value = λ s n p q. slice_low (mean a s n) h ∙ mod-eq_of_lt (fit_as a (h + 1) s n (sym e ∙ f) fits q);
}
