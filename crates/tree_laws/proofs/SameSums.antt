-- Laws of sums, products and bitwise operators, over trees.
use Rattle.std.proofs.Common.{◌≡◌, ℕ, ◌-◌, ◌^◌, ◌<◌, sym, ◌∙◌, ap, arith, refl, subst}
use Rattle.rec_bits.specs.Operators.{apply1_of, apply2_of, result_width}
use Rattle.rec_bits.specs.declared.operator.Op1.TheVariants.{Not, Neg}
use Rattle.rec_bits.specs.declared.operator.Op2.{Op2}
use Rattle.rec_bits.specs.declared.operator.Op2.TheVariants.{Add, Sub, Mul, And, Or, Xor}
use Rattle.net_model.specs.Exprs.{ExprModel, const, un, bin, expr_width}
use Rattle.net_model.specs.Meaning.{mean}
use Rattle.sym_expr.specs.Pools.{ExprFits}
use Rattle.tree_laws.specs.Rules.{AreSame}
use Rattle.tree_laws.proofs.Units.{Commutes, assoc_add, assoc_and, assoc_mul, assoc_sub, assoc_xor, comm, mul_split, neg_not, neg_zero_sub, not_sub, self_and, self_or, self_sub, self_xor, sub_difference, sub_neg, sub_sum, unit_one, unit_ones, unit_zero, zero_and, zero_mul}
use Rattle.tree_laws.proofs.Bitwise.{and_by_or, and_by_sub, assoc_or, complement_twice, not_xor, or_by_add, or_by_and, xor_by_or}
use Rattle.tree_laws.proofs.SameParts.{fit, fit_as, some}

-- ---- comm

comm_width : (o : Op2) (v w : ℕ) → v ≡ w → result_width o w ≡ result_width o v
comm_width o v w e = ap (result_width o) (sym e)

pub comm_same : (o : Op2) → Commutes o → (a b : ExprModel) → ExprFits (bin o a b) → AreSame (bin o a b) (bin o b a)
comm_same o c a b f = record {
  width = comm_width o (expr_width b) (expr_width a) f.2;
  value = λ s i p q. comm o (expr_width a) (mean a s i) (mean b s i) c ∙ ap (λ w. apply2_of o w (mean b s i) (mean a s i)) (sym f.2);
}

-- ---- assoc

pub assoc_add_same : (a b c : ExprModel) → ExprFits (bin Add (bin Add a b) c) → AreSame (bin Add (bin Add a b) c) (bin Add a (bin Add b c))
assoc_add_same a b c f = record {
  width = refl;
  value = λ s i p q. assoc_add (expr_width a) (mean a s i) (mean b s i) (mean c s i) ∙ ap (λ w. apply2_of Add (expr_width a) (mean a s i) (apply2_of Add w (mean b s i) (mean c s i))) (sym f.0.2);
}

pub assoc_mul_same : (a b c : ExprModel) → ExprFits (bin Mul (bin Mul a b) c) → AreSame (bin Mul (bin Mul a b) c) (bin Mul a (bin Mul b c))
assoc_mul_same a b c f = record {
  width = refl;
  value = λ s i p q. assoc_mul (expr_width a) (mean a s i) (mean b s i) (mean c s i) ∙ ap (λ w. apply2_of Mul (expr_width a) (mean a s i) (apply2_of Mul w (mean b s i) (mean c s i))) (sym f.0.2);
}

pub assoc_and_same : (a b c : ExprModel) → AreSame (bin And (bin And a b) c) (bin And a (bin And b c))
assoc_and_same a b c = record { width = refl; value = λ s i p q. assoc_and (expr_width a) (mean a s i) (mean b s i) (mean c s i) }

pub assoc_xor_same : (a b c : ExprModel) → AreSame (bin Xor (bin Xor a b) c) (bin Xor a (bin Xor b c))
assoc_xor_same a b c = record { width = refl; value = λ s i p q. assoc_xor (expr_width a) (mean a s i) (mean b s i) (mean c s i) }

pub assoc_or_same : (a b c : ExprModel) → ExprFits (bin Or (bin Or a b) c) → AreSame (bin Or (bin Or a b) c) (bin Or a (bin Or b c))
assoc_or_same a b c f = record {
  width = refl;
  value = λ s i p q.
      assoc_or (expr_width a) (mean a s i) (mean b s i) (mean c s i) (fit a s i f.0.0 p.0.0) (fit_as b (expr_width a) s i f.0.2 f.0.1 p.0.1) (fit_as c (expr_width a) s i f.2 f.1 p.1);
}

pub assoc_sub_same : (a b c : ExprModel) → ExprFits (bin Sub (bin Add a b) c) → AreSame (bin Sub (bin Add a b) c) (bin Add a (bin Sub b c))
assoc_sub_same a b c f = record {
  width = refl;
  value = λ s i p q.
      assoc_sub (expr_width a) (mean a s i) (mean b s i) (mean c s i) (fit_as c (expr_width a) s i f.2 f.1 p.1)
      ∙ ap (λ w. apply2_of Add (expr_width a) (mean a s i) (apply2_of Sub w (mean b s i) (mean c s i))) (sym f.0.2);
}

pub sub_sum_same : (a b c : ExprModel) → ExprFits (bin Sub a (bin Add b c)) → AreSame (bin Sub a (bin Add b c)) (bin Sub (bin Sub a b) c)
sub_sum_same a b c f = record {
  width = refl;
  value = λ s i p q.
      (let w : ℕ = expr_width a in
      let third : expr_width c ≡ expr_width a = f.1.2 ∙ f.2 in
      ap (λ v. apply2_of Sub (expr_width a) (mean a s i) (apply2_of Add v (mean b s i) (mean c s i))) f.2
      ∙ sub_sum (expr_width a) (mean a s i) (mean b s i) (mean c s i) (fit_as b (expr_width a) s i f.2 f.1.0 p.1.0) (fit_as c (expr_width a) s i third f.1.1 p.1.1));
}

pub sub_difference_same : (a b c : ExprModel) → ExprFits (bin Sub a (bin Sub b c)) → AreSame (bin Sub a (bin Sub b c)) (bin Add (bin Sub a b) c)
sub_difference_same a b c f = record {
  width = refl;
  value = λ s i p q.
      (let third : expr_width c ≡ expr_width a = f.1.2 ∙ f.2 in
      ap (λ v. apply2_of Sub (expr_width a) (mean a s i) (apply2_of Sub v (mean b s i) (mean c s i))) f.2
      ∙ sub_difference (expr_width a) (mean a s i) (mean b s i) (mean c s i) (fit_as b (expr_width a) s i f.2 f.1.0 p.1.0) (fit_as c (expr_width a) s i third f.1.1 p.1.1));
}

-- ---- unit, zero, self

pub add_zero_same : (a : ExprModel) (w : ℕ) → ExprFits a → AreSame (bin Add a (const w 0)) a
add_zero_same a w f = record { width = refl; value = λ s i p q. unit_zero Add (expr_width a) (mean a s i) tt (some a f) (fit a s i f q) }

pub sub_zero_same : (a : ExprModel) (w : ℕ) → ExprFits a → AreSame (bin Sub a (const w 0)) a
sub_zero_same a w f = record { width = refl; value = λ s i p q. unit_zero Sub (expr_width a) (mean a s i) tt (some a f) (fit a s i f q) }

pub or_zero_same : (a : ExprModel) (w : ℕ) → ExprFits a → AreSame (bin Or a (const w 0)) a
or_zero_same a w f = record { width = refl; value = λ s i p q. unit_zero Or (expr_width a) (mean a s i) tt (some a f) (fit a s i f q) }

pub xor_zero_same : (a : ExprModel) (w : ℕ) → ExprFits a → AreSame (bin Xor a (const w 0)) a
xor_zero_same a w f = record { width = refl; value = λ s i p q. unit_zero Xor (expr_width a) (mean a s i) tt (some a f) (fit a s i f q) }

pub and_ones_same : (a : ExprModel) (w m : ℕ) → w ≡ expr_width a → m ≡ apply1_of Not w 0 → ExprFits a → AreSame (bin And a (const w m)) a
and_ones_same a w m e g f = record {
  width = refl;
  value = λ s i p q.
      (let ones : m ≡ 2 ^ expr_width a - 1 = g ∙ ap (λ v. 2 ^ v - 1 - 0) e ∙ (let z : 2 ^ expr_width a - 1 - 0 ≡ 2 ^ expr_width a - 1 = omega arith in z) in
      ap (apply2_of And (expr_width a) (mean a s i)) ones ∙ unit_ones (expr_width a) (mean a s i) (fit a s i f q));
}

pub mul_one_same : (a : ExprModel) (w : ℕ) → ExprFits a → AreSame (bin Mul a (const w 1)) a
mul_one_same a w f = record { width = refl; value = λ s i p q. unit_one (expr_width a) (mean a s i) (fit a s i f q) }

pub and_zero_same : (a : ExprModel) (w : ℕ) → w ≡ expr_width a → AreSame (bin And a (const w 0)) (const w 0)
and_zero_same a w e = record { width = sym e; value = λ s i p q. zero_and (expr_width a) (mean a s i) }

pub mul_zero_same : (a : ExprModel) (w : ℕ) → w ≡ expr_width a → AreSame (bin Mul a (const w 0)) (const w 0)
mul_zero_same a w e = record { width = sym e; value = λ s i p q. zero_mul (expr_width a) (mean a s i) }

pub sub_self_same : (a : ExprModel) (w : ℕ) → w ≡ expr_width a → AreSame (bin Sub a a) (const w 0)
sub_self_same a w e = record { width = sym e; value = λ s i p q. self_sub (expr_width a) (mean a s i) }

pub xor_self_same : (a : ExprModel) (w : ℕ) → w ≡ expr_width a → AreSame (bin Xor a a) (const w 0)
xor_self_same a w e = record { width = sym e; value = λ s i p q. self_xor (expr_width a) (mean a s i) }

pub and_self_same : (a : ExprModel) → AreSame (bin And a a) a
and_self_same a = record { width = refl; value = λ s i p q. self_and (expr_width a) (mean a s i) }

pub or_self_same : (a : ExprModel) → AreSame (bin Or a a) a
or_self_same a = record { width = refl; value = λ s i p q. self_or (expr_width a) (mean a s i) }

-- ---- add-lit, neg, not

pub add_lit_same : (a : ExprModel) (w c d : ℕ) → w ≡ expr_width a → d ≡ apply1_of Neg w c → ExprFits (const w c) → AreSame (bin Sub a (const w c)) (bin Add a (const w d))
add_lit_same a w c d e g f = record {
  width = refl;
  value = λ s i p q.
      (let low : c < 2 ^ expr_width a = subst (λ v. c < 2 ^ v) e f.2 in
      sub_neg (expr_width a) (mean a s i) c low ∙ ap (apply2_of Add (expr_width a) (mean a s i)) (ap (λ v. apply1_of Neg v c) (sym e) ∙ sym g));
}

pub sub_neg_same : (a b : ExprModel) → ExprFits (bin Sub a b) → AreSame (bin Sub a b) (bin Add a (un Neg b))
sub_neg_same a b f = record {
  width = refl;
  value = λ s i p q.
      sub_neg (expr_width a) (mean a s i) (mean b s i) (fit_as b (expr_width a) s i f.2 f.1 p.1)
      ∙ ap (λ v. apply2_of Add (expr_width a) (mean a s i) (apply1_of Neg v (mean b s i))) (sym f.2);
}

pub neg_zero_same : (a : ExprModel) (w : ℕ) → w ≡ expr_width a → AreSame (un Neg a) (bin Sub (const w 0) a)
neg_zero_same a w e = record {
  width = sym e;
  value = λ s i p q. neg_zero_sub (expr_width a) (mean a s i) ∙ ap (λ v. apply2_of Sub v 0 (mean a s i)) (sym e);
}

pub neg_not_same : (a : ExprModel) (w : ℕ) → ExprFits a → AreSame (un Neg a) (bin Add (un Not a) (const w 1))
neg_not_same a w f = record { width = refl; value = λ s i p q. neg_not (expr_width a) (mean a s i) (fit a s i f p) }

ones_at : (w v m : ℕ) → w ≡ v → m ≡ apply1_of Not w 0 → m ≡ 2 ^ v - 1
ones_at w v m e g = g ∙ ap (λ u. 2 ^ u - 1 - 0) e ∙ (let z : 2 ^ v - 1 - 0 ≡ 2 ^ v - 1 = omega arith in z)

pub not_xor_same : (a : ExprModel) (w m : ℕ) → w ≡ expr_width a → m ≡ apply1_of Not w 0 → ExprFits a → AreSame (un Not a) (bin Xor a (const w m))
not_xor_same a w m e g f = record {
  width = refl;
  value = λ s i p q. not_xor (expr_width a) (mean a s i) (fit a s i f p) ∙ ap (apply2_of Xor (expr_width a) (mean a s i)) (sym (ones_at w (expr_width a) m e g));
}

pub not_sub_same : (a : ExprModel) (w m : ℕ) → w ≡ expr_width a → m ≡ apply1_of Not w 0 → ExprFits a → AreSame (un Not a) (bin Sub (const w m) a)
not_sub_same a w m e g f = record {
  width = sym e;
  value = λ s i p q.
      not_sub (expr_width a) (mean a s i) (fit a s i f p) ∙ ap (λ v. apply2_of Sub (expr_width a) v (mean a s i)) (sym (ones_at w (expr_width a) m e g))
      ∙ ap (λ v. apply2_of Sub v m (mean a s i)) (sym e);
}

pub not_not_same : (a : ExprModel) → ExprFits a → AreSame (un Not (un Not a)) a
not_not_same a f = record { width = refl; value = λ s i p q. complement_twice (expr_width a) (mean a s i) (fit a s i f q) }

pub mul_split_same : (a b c : ExprModel) → ExprFits (bin Mul a (bin Add b c)) → AreSame (bin Mul a (bin Add b c)) (bin Add (bin Mul a b) (bin Mul a c))
mul_split_same a b c f = record {
  width = refl;
  value = λ s i p q.
      ap (λ v. apply2_of Mul (expr_width a) (mean a s i) (apply2_of Add v (mean b s i) (mean c s i))) f.2
      ∙ mul_split (expr_width a) (mean a s i) (mean b s i) (mean c s i);
}

-- ---- bitwise operators by one another

pub xor_or_same : (a b : ExprModel) → ExprFits (bin Xor a b) → AreSame (bin Xor a b) (bin Sub (bin Or a b) (bin And a b))
xor_or_same a b f = record {
  width = refl;
  value = λ s i p q. xor_by_or (expr_width a) (mean a s i) (mean b s i) (fit a s i f.0 p.0) (fit_as b (expr_width a) s i f.2 f.1 p.1);
}

pub or_add_same : (a b : ExprModel) → ExprFits (bin Or a b) → AreSame (bin Or a b) (bin Add (bin Sub a (bin And a b)) b)
or_add_same a b f = record {
  width = refl;
  value = λ s i p q. or_by_add (expr_width a) (mean a s i) (mean b s i) (fit a s i f.0 p.0) (fit_as b (expr_width a) s i f.2 f.1 p.1);
}

pub and_sub_same : (a b : ExprModel) → ExprFits (bin And a b) → AreSame (bin And a b) (bin Sub (bin Add a b) (bin Or a b))
and_sub_same a b f = record {
  width = refl;
  value = λ s i p q. and_by_sub (expr_width a) (mean a s i) (mean b s i) (fit a s i f.0 p.0) (fit_as b (expr_width a) s i f.2 f.1 p.1);
}

pub or_and_same : (a b : ExprModel) → ExprFits (bin Or a b) → AreSame (bin Or a b) (un Not (bin And (un Not a) (un Not b)))
or_and_same a b f = record {
  width = refl;
  value = λ s i p q.
      or_by_and (expr_width a) (mean a s i) (mean b s i) (fit a s i f.0 p.0) (fit_as b (expr_width a) s i f.2 f.1 p.1)
      ∙ ap (λ v. apply1_of Not (expr_width a) (apply2_of And (expr_width a) (apply1_of Not (expr_width a) (mean a s i)) (apply1_of Not v (mean b s i)))) (sym f.2);
}

pub and_or_same : (a b : ExprModel) → ExprFits (bin And a b) → AreSame (bin And a b) (un Not (bin Or (un Not a) (un Not b)))
and_or_same a b f = record {
  width = refl;
  value = λ s i p q.
      and_by_or (expr_width a) (mean a s i) (mean b s i) (fit a s i f.0 p.0) (fit_as b (expr_width a) s i f.2 f.1 p.1)
      ∙ ap (λ v. apply1_of Not (expr_width a) (apply2_of Or (expr_width a) (apply1_of Not (expr_width a) (mean a s i)) (apply1_of Not v (mean b s i)))) (sym f.2);
}
