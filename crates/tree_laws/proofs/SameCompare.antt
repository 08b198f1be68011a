-- Laws of tests, over trees, and of their negations.
use Rattle.std.proofs.Common.{◌≡◌, ℕ, ◌+◌, ◌-◌, ◌%◌, ◌^◌, ◌<◌, ◌≤◌, sym, ◌∙◌, ap, arith, refl, subst}
use Rattle.rec_bits.specs.Operators.{apply2_of, sext_of, slice_of}
use Rattle.rec_bits.specs.declared.operator.Op1.TheVariants.{Not}
use Rattle.rec_bits.specs.declared.operator.Op2.TheVariants.{Add, Sub, And, Xor, Shl, Eq, Ltu, Lts}
use Rattle.net_model.specs.Exprs.{ExprModel, const, un, bin, slice, zext, sext, expr_width}
use Rattle.net_model.specs.Meaning.{mean}
use Rattle.sym_expr.specs.Pools.{ExprFits}
use Rattle.tree_laws.specs.Rules.{AreSame}
use Rattle.tree_laws.proofs.Units.{comm, eq_sub}
use Rattle.tree_laws.proofs.Compared.{eq_ltu, eq_sext, lts_sext, not_eq, not_gtu, not_ltu}
use Rattle.tree_laws.proofs.Bitwise.{eq_xor}
use Rattle.tree_laws.proofs.Orders.{lts_diff, lts_over, lts_sign, ltu_diff, ltu_lts, ltu_lts_wide, ltu_over, not_bit, not_gts, not_lts, not_negative, not_sign}
use Rattle.tree_laws.proofs.SameParts.{fit, fit_as, some}

-- ---- eq

pub eq_sub_same : (a b : ExprModel) (w : ℕ) → ExprFits (bin Eq a b) → AreSame (bin Eq a b) (bin Eq (bin Sub a b) (const w 0))
eq_sub_same a b w f = record {
  width = refl;
  value = λ s i p q. sym (eq_sub (expr_width a) (mean a s i) (mean b s i) (fit a s i f.0 p.0) (fit_as b (expr_width a) s i f.2 f.1 p.1));
}

pub eq_sub_back_same : (a b : ExprModel) (w : ℕ) → ExprFits (bin Eq a b) → AreSame (bin Eq a b) (bin Eq (bin Sub b a) (const w 0))
eq_sub_back_same a b w f = record {
  width = refl;
  value = λ s i p q.
      comm Eq (expr_width b) (mean a s i) (mean b s i) tt
      ∙ sym (eq_sub (expr_width b) (mean b s i) (mean a s i) (fit b s i f.1 p.1) (fit_as a (expr_width b) s i (sym f.2) f.0 p.0));
}

pub eq_xor_same : (a b : ExprModel) (w : ℕ) → AreSame (bin Eq a b) (bin Eq (bin Xor a b) (const w 0))
eq_xor_same a b w = record { width = refl; value = λ s i p q. sym (eq_xor (expr_width a) (mean a s i) (mean b s i)) }

pub eq_zext_same : (a b : ExprModel) (x : ℕ) → AreSame (bin Eq a b) (bin Eq (zext a x) (zext b x))
eq_zext_same a b x = record { width = refl; value = λ s i p q. refl }

pub eq_sext_same : (a b : ExprModel) (x : ℕ) → ExprFits (bin Eq a b) → ExprFits (sext a x) → AreSame (bin Eq a b) (bin Eq (sext a x) (sext b x))
eq_sext_same a b x f g = record {
  width = refl;
  value = λ s i p q.
      (let le : expr_width a ≤ x = omega (arith, g.1.0) in
      sym (ap (λ v. apply2_of Eq x (sext_of (mean a s i) (expr_width a) x) (sext_of (mean b s i) v x)) f.2
      ∙ eq_sext (expr_width a) x (mean a s i) (mean b s i) le (fit a s i f.0 p.0) (fit_as b (expr_width a) s i f.2 f.1 p.1)));
}

pub eq_ltu_same : (a : ExprModel) (w : ℕ) → AreSame (bin Eq a (const w 0)) (bin Ltu a (const w 1))
eq_ltu_same a w = record { width = refl; value = λ s i p q. eq_ltu (expr_width a) (mean a s i) }

-- ---- ltu and lts, wider

pub ltu_zext_same : (a b : ExprModel) (x : ℕ) → AreSame (bin Ltu a b) (bin Ltu (zext a x) (zext b x))
ltu_zext_same a b x = record { width = refl; value = λ s i p q. refl }

pub ltu_lts_wide_same : (a b : ExprModel) (x : ℕ) → ExprFits (bin Ltu a b) → ExprFits (zext a x) → AreSame (bin Ltu a b) (bin Lts (zext a x) (zext b x))
ltu_lts_wide_same a b x f g = record {
  width = refl;
  value = λ s i p q.
      sym (ltu_lts_wide (expr_width a) x (mean a s i) (mean b s i) (some a f.0) g.1.0 (fit a s i f.0 p.0) (fit_as b (expr_width a) s i f.2 f.1 p.1));
}

pub ltu_diff_same : (a b : ExprModel) (x : ℕ) → ExprFits (bin Ltu a b) → ExprFits (zext a x) → AreSame (bin Ltu a b) (bin Lts (bin Sub (zext a x) (zext b x)) (const x 0))
ltu_diff_same a b x f g = record {
  width = refl;
  value = λ s i p q.
      sym (ltu_diff (expr_width a) x (mean a s i) (mean b s i) (some a f.0) g.1.0 (fit a s i f.0 p.0) (fit_as b (expr_width a) s i f.2 f.1 p.1));
}

pub lts_sext_same : (a b : ExprModel) (x : ℕ) → ExprFits (bin Lts a b) → ExprFits (sext a x) → AreSame (bin Lts a b) (bin Lts (sext a x) (sext b x))
lts_sext_same a b x f g = record {
  width = refl;
  value = λ s i p q.
      sym (ap (λ v. apply2_of Lts x (sext_of (mean a s i) (expr_width a) x) (sext_of (mean b s i) v x)) f.2
      ∙ lts_sext (expr_width a) x (mean a s i) (mean b s i) (some a f.0) g.1.0 (fit a s i f.0 p.0) (fit_as b (expr_width a) s i f.2 f.1 p.1));
}

pub lts_diff_same : (a b : ExprModel) (x : ℕ) → ExprFits (bin Lts a b) → ExprFits (sext a x) → AreSame (bin Lts a b) (bin Lts (bin Sub (sext a x) (sext b x)) (const x 0))
lts_diff_same a b x f g = record {
  width = refl;
  value = λ s i p q.
      sym (ap (λ v. apply2_of Lts x (apply2_of Sub x (sext_of (mean a s i) (expr_width a) x) (sext_of (mean b s i) v x)) 0) f.2
      ∙ lts_diff (expr_width a) x (mean a s i) (mean b s i) (some a f.0) g.1.0 (fit a s i f.0 p.0) (fit_as b (expr_width a) s i f.2 f.1 p.1));
}

-- ---- by the top bit

pub lts_sign_same : (a : ExprModel) (w h : ℕ) → w ≡ expr_width a → w ≡ h + 1 → ExprFits a → AreSame (bin Lts a (const w 0)) (slice a h h)
lts_sign_same a w h e f fits = record {
  width = (let z : 1 ≡ h + 1 - h = omega arith in z);
  value = λ s i p q.
      (let top : expr_width a - 1 ≡ h = omega (arith, e, f) in
      lts_sign (expr_width a) (mean a s i) (some a fits) (fit a s i fits p.0) ∙ (λ t. slice_of (mean a s i) (top t) (top t)));
}

pub lts_over_same : (a b : ExprModel) (w : ℕ) → ExprFits (bin Lts a b)
    → AreSame (bin Lts a b) (bin Lts (bin Xor (bin Sub a b) (bin And (bin Xor a b) (bin Xor (bin Sub a b) a))) (const w 0))
lts_over_same a b w f = record {
  width = refl;
  value = λ s i p q. sym (lts_over (expr_width a) (mean a s i) (mean b s i) (some a f.0) (fit a s i f.0 p.0) (fit_as b (expr_width a) s i f.2 f.1 p.1));
}

pub ltu_over_same : (a b : ExprModel) (w : ℕ) → ExprFits (bin Ltu a b)
    → AreSame (bin Ltu a b) (bin Lts (bin Xor (bin Sub a b) (bin And (bin Xor a b) (bin Xor (bin Sub a b) b))) (const w 0))
ltu_over_same a b w f = record {
  width = refl;
  value = λ s i p q. sym (ltu_over (expr_width a) (mean a s i) (mean b s i) (some a f.0) (fit a s i f.0 p.0) (fit_as b (expr_width a) s i f.2 f.1 p.1));
}

top_power : (w v h n : ℕ) → w ≡ v → w ≡ h + 1 → n ≡ 2 ^ h → n ≡ 2 ^ (v - 1)
top_power w v h n e f g = g ∙ ap (λ u. 2 ^ u) (let z : h ≡ v - 1 = omega (arith, e, f) in z)

pub ltu_lts_same : (a b : ExprModel) (w h n : ℕ) → w ≡ expr_width a → w ≡ h + 1 → n ≡ 2 ^ h → ExprFits (bin Ltu a b) → AreSame (bin Ltu a b) (bin Lts (bin Xor a (const w n)) (bin Xor b (const w n)))
ltu_lts_same a b w h n e g k f = record {
  width = refl;
  value = λ s i p q.
      (let top : n ≡ 2 ^ (expr_width a - 1) = top_power w (expr_width a) h n e g k in
      sym ((λ t. apply2_of Lts (expr_width a) (apply2_of Xor (expr_width a) (mean a s i) (top t)) (apply2_of Xor (expr_width a) (mean b s i) (top t)))
      ∙ ltu_lts (expr_width a) (mean a s i) (mean b s i) (some a f.0) (fit a s i f.0 p.0) (fit_as b (expr_width a) s i f.2 f.1 p.1)));
}

-- ---- negations

opposite : (x y : ℕ) → x ≡ 1 - y → 2 ^ 1 - 1 - y ≡ x
opposite x y e = sym e

pub not_eq_same : (a : ExprModel) (w : ℕ) → w ≡ expr_width a → AreSame (un Not (bin Eq a (const w 0))) (bin Ltu (const w 0) a)
not_eq_same a w e = record { width = refl; value = λ s i p q. opposite _ _ (not_eq (expr_width a) (mean a s i)) ∙ refl }

pub not_ltu_same : (a : ExprModel) (w c d : ℕ) → c ≡ d + 1 → AreSame (un Not (bin Ltu a (const w c))) (bin Ltu (const w d) a)
not_ltu_same a w c d e = record {
  width = refl;
  value = λ s i p q.
      (let some_c : 0 < c = omega (arith, e) in
      let before : c - 1 ≡ d = omega (arith, e) in
      opposite _ _ (not_ltu (expr_width a) (mean a s i) c some_c) ∙ ap (λ n. apply2_of Ltu w n (mean a s i)) before);
}

pub not_gtu_same : (a : ExprModel) (w c d : ℕ) → d ≡ c + 1 → AreSame (un Not (bin Ltu (const w c) a)) (bin Ltu a (const w d))
not_gtu_same a w c d e = record {
  width = refl;
  value = λ s i p q. opposite _ _ (not_gtu (expr_width a) (mean a s i) c) ∙ ap (apply2_of Ltu (expr_width a) (mean a s i)) (sym e);
}

pub not_lts_same : (a : ExprModel) (w h n c d : ℕ) → w ≡ expr_width a → w ≡ h + 1 → n ≡ 2 ^ h → (c ≡ n → ⊥) → d ≡ apply2_of Sub w c 1 → ExprFits a → ExprFits (const w c)
    → AreSame (un Not (bin Lts a (const w c))) (bin Lts (const w d) a)
not_lts_same a w h n c d e g k ne j fits lit = record {
  width = refl;
  value = λ s i p q.
      (let low : c < 2 ^ expr_width a = subst (λ v. c < 2 ^ v) e lit.2 in
      let least : c ≡ 2 ^ (expr_width a - 1) → ⊥ = λ z. ne (z ∙ sym (top_power w (expr_width a) h n e g k)) in
      let before : apply2_of Sub (expr_width a) c 1 ≡ d = ap (λ v. apply2_of Sub v c 1) (sym e) ∙ sym j in
      opposite _ _ (not_lts (expr_width a) (mean a s i) c (some a fits) low least)
      ∙ (λ t. apply2_of Lts (sym e t) (before t) (mean a s i)));
}

pub not_gts_same : (a : ExprModel) (w h n c d : ℕ) → w ≡ expr_width a → w ≡ h + 1 → n ≡ 2 ^ h → d ≡ apply2_of Add w c 1 → (d ≡ n → ⊥) → ExprFits a → ExprFits (const w c)
    → AreSame (un Not (bin Lts (const w c) a)) (bin Lts a (const w d))
not_gts_same a w h n c d e g k j ne fits lit = record {
  width = refl;
  value = λ s i p q.
      (let v : ℕ = expr_width a in
      let low : c < 2 ^ expr_width a = subst (λ y. c < 2 ^ y) e lit.2 in
      let after : d ≡ (c + 1) % 2 ^ expr_width a = j ∙ ap (λ y. (c + 1) % 2 ^ y) e in
      let up = Rattle.rec_bits.proofs.Bits.double_half (expr_width a) (some a fits) in
      let half = Rattle.std.proofs.lemmas.Nat.pow_pos (expr_width a - 1) in
      let greatest : c + 1 ≡ 2 ^ (expr_width a - 1) → ⊥ = λ z.
      (let less : c + 1 < 2 ^ expr_width a = omega (arith, z, up, half) in
      ne (after ∙ Rattle.std.proofs.Math.Nat.mod-eq_of_lt less ∙ z ∙ sym (top_power w (expr_width a) h n e g k))) in
      ap (λ y. 2 ^ 1 - 1 - apply2_of Lts y c (mean a s i)) e
      ∙ opposite _ _ (not_gts (expr_width a) (mean a s i) c (some a fits) low greatest) ∙ ap (apply2_of Lts (expr_width a) (mean a s i)) (sym after));
}

pub not_negative_same : (a : ExprModel) (w : ℕ) → ExprFits a → AreSame (un Not (bin Lts a (const w 0))) (bin Lts (un Not a) (const w 0))
not_negative_same a w f = record { width = refl; value = λ s i p q. opposite _ _ (not_negative (expr_width a) (mean a s i) (some a f) (fit a s i f p.0)) }

pub not_sign_same : (a : ExprModel) (w h n : ℕ) → w ≡ expr_width a → w ≡ h + 1 → n ≡ 2 ^ h → ExprFits a → AreSame (un Not (bin Lts a (const w 0))) (bin Eq (bin And a (const w n)) (const w 0))
not_sign_same a w h n e g k f = record {
  width = refl;
  value = λ s i p q.
      opposite _ _ (not_sign (expr_width a) (mean a s i) (some a f) (fit a s i f p.0))
      ∙ ap (λ m. apply2_of Eq (expr_width a) (apply2_of And (expr_width a) (mean a s i) m) 0) (sym (top_power w (expr_width a) h n e g k));
}

pub not_bit_same : (a : ExprModel) (w h k n m : ℕ) → w ≡ expr_width a → w ≡ h + 1 → n ≡ 2 ^ k → h ≡ m + k → ExprFits a
    → AreSame (un Not (bin Eq (bin And a (const w n)) (const w 0))) (bin Lts (bin Shl a (const w m)) (const w 0))
not_bit_same a w h k n m e g j l f = record {
  width = refl;
  value = λ s i p q.
      (let low : k < expr_width a = omega (arith, e, g, l) in
      let place : expr_width a - 1 - k ≡ m = omega (arith, e, g, l) in
      ap (λ y. 2 ^ 1 - 1 - apply2_of Eq (expr_width a) (apply2_of And (expr_width a) (mean a s i) y) 0) j
      ∙ opposite _ _ (not_bit (expr_width a) (mean a s i) k (some a f) low)
      ∙ ap (λ y. apply2_of Lts (expr_width a) (apply2_of Shl (expr_width a) (mean a s i) y) 0) place);
}
