-- Laws of extensions, over trees: ext-ext, sext-zext, ext-bitwise, zext-and.
use Rattle.std.proofs.Common.{◌≡◌, ℕ, ◌+◌, ◌-◌, ◌^◌, ◌≤◌, ◌&&◌, ◌||◌, sym, ◌∙◌, ap, arith, refl}
use Rattle.std.specs.Prelude.{bit_and, bit_or, bit_xor}
use Rattle.rec_bits.specs.Operators.{apply2_of, sext_of}
use Rattle.rec_bits.specs.declared.operator.Op2.TheVariants.{And, Or, Xor}
use Rattle.net_model.specs.Exprs.{ExprModel, const, bin, slice, zext, sext, expr_width}
use Rattle.net_model.specs.Meaning.{mean}
use Rattle.sym_expr.specs.Pools.{ExprFits}
use Rattle.tree_laws.specs.Rules.{AreSame}
use Rattle.tree_laws.proofs.Extensions.{sext_of_sext, sext_of_zext}
use Rattle.tree_laws.proofs.Shifts.{and_slice}
use Rattle.tree_laws.proofs.Bitwise.{and_bitwise, either, or_bitwise, sext_bitwise, xor_bitwise}
use Rattle.tree_laws.proofs.SameParts.{fit, fit_as, some}

-- ext-ext
pub zext_zext_same : (a : ExprModel) (x y : ℕ) → AreSame (zext (zext a x) y) (zext a y)
zext_zext_same a x y = record { width = refl; value = λ s i p q. refl }

pub sext_sext_same : (a : ExprModel) (x y : ℕ) → ExprFits (sext (sext a x) y) → AreSame (sext (sext a x) y) (sext a y)
sext_sext_same a x y f = record {
  width = refl;
  value = λ s i p q. (let le : x ≤ y = omega (arith, f.1.0) in sext_of_sext (mean a s i) (expr_width a) x y (some a f.0.0) f.0.1.0 le (fit a s i f.0.0 q));
}

-- sext-zext
pub sext_zext_same : (a : ExprModel) (x y : ℕ) → ExprFits (sext (zext a x) y) → AreSame (sext (zext a x) y) (zext a y)
sext_zext_same a x y f = record {
  width = refl;
  value = λ s i p q. sext_of_zext (mean a s i) (expr_width a) x y f.0.1.0 (fit a s i f.0.0 q);
}

-- ext-bitwise
pub zext_and_same : (a b : ExprModel) (x : ℕ) → AreSame (zext (bin And a b) x) (bin And (zext a x) (zext b x))
zext_and_same a b x = record { width = refl; value = λ s i p q. refl }

pub zext_or_same : (a b : ExprModel) (x : ℕ) → AreSame (zext (bin Or a b) x) (bin Or (zext a x) (zext b x))
zext_or_same a b x = record { width = refl; value = λ s i p q. refl }

pub zext_xor_same : (a b : ExprModel) (x : ℕ) → AreSame (zext (bin Xor a b) x) (bin Xor (zext a x) (zext b x))
zext_xor_same a b x = record { width = refl; value = λ s i p q. refl }

pub sext_and_same : (a b : ExprModel) (x : ℕ) → ExprFits (sext (bin And a b) x) → AreSame (sext (bin And a b) x) (bin And (sext a x) (sext b x))
sext_and_same a b x f = record {
  width = refl;
  value = λ s i p q.
      (let le : expr_width a ≤ x = omega (arith, f.1.0) in
      sext_bitwise bit_and (λ u v. u && v) and_bitwise (expr_width a) x (mean a s i) (mean b s i) (some a f.0.0) le (fit a s i f.0.0 p.0) (fit_as b (expr_width a) s i f.0.2 f.0.1 p.1)
      ∙ ap (λ w. bit_and (sext_of (mean a s i) (expr_width a) x) (sext_of (mean b s i) w x)) (sym f.0.2));
}

pub sext_or_same : (a b : ExprModel) (x : ℕ) → ExprFits (sext (bin Or a b) x) → AreSame (sext (bin Or a b) x) (bin Or (sext a x) (sext b x))
sext_or_same a b x f = record {
  width = refl;
  value = λ s i p q.
      (let le : expr_width a ≤ x = omega (arith, f.1.0) in
      sext_bitwise bit_or (λ u v. u || v) or_bitwise (expr_width a) x (mean a s i) (mean b s i) (some a f.0.0) le (fit a s i f.0.0 p.0) (fit_as b (expr_width a) s i f.0.2 f.0.1 p.1)
      ∙ ap (λ w. bit_or (sext_of (mean a s i) (expr_width a) x) (sext_of (mean b s i) w x)) (sym f.0.2));
}

pub sext_xor_same : (a b : ExprModel) (x : ℕ) → ExprFits (sext (bin Xor a b) x) → AreSame (sext (bin Xor a b) x) (bin Xor (sext a x) (sext b x))
sext_xor_same a b x f = record {
  width = refl;
  value = λ s i p q.
      (let le : expr_width a ≤ x = omega (arith, f.1.0) in
      sext_bitwise bit_xor either xor_bitwise (expr_width a) x (mean a s i) (mean b s i) (some a f.0.0) le (fit a s i f.0.0 p.0) (fit_as b (expr_width a) s i f.0.2 f.0.1 p.1)
      ∙ ap (λ w. bit_xor (sext_of (mean a s i) (expr_width a) x) (sext_of (mean b s i) w x)) (sym f.0.2));
}

-- zext-and
pub and_slice_same : (a : ExprModel) (w h k p m : ℕ) → w ≡ expr_width a → k ≡ h + 1 → p ≡ 2 ^ k → p ≡ m + 1 → AreSame (bin And a (const w m)) (zext (slice a h 0) w)
and_slice_same a w h k p m e f g j = record {
  width = sym e;
  value = λ s i u v.
      (let mask : m ≡ 2 ^ (h + 1) - 1 = (let z : m ≡ 2 ^ k - 1 = omega (arith, g, j) in z ∙ ap (λ n. 2 ^ n - 1) f) in
      ap (apply2_of And (expr_width a) (mean a s i)) mask ∙ and_slice (expr_width a) (mean a s i) h);
}
