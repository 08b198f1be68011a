-- Multiples of classes: their sums, their negatives, and products with numbers.
use Rattle.std.proofs.Common.{◌≡◌, ℕ, ◌+◌, ◌*◌, ◌-◌, ◌%◌, ◌^◌, ◌<◌, ◌≤◌, [], ◌∙◌, sym, ap, subst, slice_index, arith}
use Rattle.std.proofs.Math.Nat.{mod-eq_of_lt, mod-lt, mod_self}
use Rattle.std.proofs.lemmas.Nat.{pow_below, pow_pos}
use Rattle.rec_bits.specs.declared.operator.Op1.TheVariants.{Neg}
use Rattle.rec_bits.specs.declared.operator.Op2.TheVariants.{Add, Sub, Mul, Shl}
use Rattle.rec_bits.specs.Operators.{IsWidth, apply1_of, apply2_of}
use Rattle.sym_expr.specs.declared.pool.Node.TheVariants.{Bin}
use Rattle.tree_laws.specs.declared.classes.Classes.{Classes}
use Rattle.tree_laws.specs.Classes.{Grows, NodeStands, class_count, width_in}
use Rattle.tree_laws.proofs.Units.{assoc_mul, comm, mul_shl, mul_split, neg_zero_sub, unit_one, zero_mul}
use Rattle.tree_laws.proofs.Shifts.{shl_is}
use Rattle.class_values.specs.Values.{AreSame, IsNumber}
use Rattle.class_values.specs.Inner.Sums.{IsMultiple, Makes, MakesBy, MakesOf}
use Rattle.class_values.specs.Inner.Numbers.{IsSized}
use Rattle.class_values.proofs.Summing.{literal_value, literal_width, makes_by_kept, same_kept, sub_back}

-- ---- numbers

-- less one time
neg_times : (w x : ℕ) → 1 ≤ w → x < 2 ^ w → apply2_of Mul w x (2 ^ w - 1) ≡ apply1_of Neg w x
neg_times w x some fits =
    let pos : 0 < 2 ^ w = pow_pos w in
    let all : 2 ^ w - 1 + 1 ≡ 2 ^ w = omega (arith, pos) in
    let none : apply2_of Add w (2 ^ w - 1) 1 ≡ 0 = ap (λ n. n % 2 ^ w) all ∙ mod_self (2 ^ w) in
    let y : ℕ = apply2_of Mul w x (2 ^ w - 1) in
    let sum : apply2_of Add w y x ≡ 0 = ap (apply2_of Add w y) (sym (unit_one w x fits)) ∙ sym (mul_split w x (2 ^ w - 1) 1) ∙ ap (apply2_of Mul w x) none ∙ zero_mul w x in
    sym (sub_back w y x some (mod-lt (x * (2 ^ w - 1)) pos) fits) ∙ ap (λ z. apply2_of Sub w z x) sum ∙ sym (neg_zero_sub w x)

-- ---- classes as multiples

pub once_is : (t : Classes) (a w : ℕ) → a < class_count t → width_in t a ≡ w → IsWidth w → IsMultiple t a w 1 a
once_is t a w there e is = record {
  is_width = is;
  fits = pow_below 0 w is.0;
  makes = record {
    first = there;
    below = there;
    same = e;
    wide = e;
    value = λ memory regs m. sym (unit_one w (slice_index regs a) (subst (λ v. slice_index regs a < 2 ^ v) e (m.values a there)));
  };
}

pub negative_is : (t : Classes) (a c w : ℕ) → MakesOf t Neg a c → width_in t c ≡ w → IsWidth w → IsMultiple t a w (2 ^ w - 1) c
negative_is t a c w h e is =
    let same : width_in t a ≡ w = sym h.wide ∙ e in
    record {
      is_width = is;
      fits = (let pos : 0 < 2 ^ w = pow_pos w in omega (arith, pos));
      makes = record {
        first = h.first;
        below = h.below;
        same = same;
        wide = e;
        value = λ memory regs m.
            (let fits : slice_index regs a < 2 ^ w = subst (λ v. slice_index regs a < 2 ^ v) same (m.values a h.first) in
            h.value memory regs m ∙ (λ i. apply1_of Neg (same i) (slice_index regs a)) ∙ sym (neg_times w (slice_index regs a) is.0 fits));
      };
    }

pub product_is : (t : Classes) (a b w n c found : ℕ) → IsSized t [] b w n → a < class_count t → c < class_count t → width_in t a ≡ w → width_in t c ≡ w → AreSame t c found → NodeStands t (Bin Mul a b) found → IsMultiple t a w n c
product_is t a b w n c found last there below e f same s = record {
  is_width = last.is_width;
  fits = last.fits;
  makes = record {
    first = there;
    below = below;
    same = e;
    wide = f;
    value = λ memory regs m.
        (let y : slice_index regs b ≡ n = (last.number memory tt).value regs m in
        same.value memory regs m ∙ sym (s memory regs m).value ∙ (λ i. apply2_of Mul (e i) (slice_index regs a) (y i)));
  };
}

-- ---- classes of multiples

pub times_nothing : (t : Classes) (a w c : ℕ) → a < class_count t → width_in t a ≡ w → IsNumber t w 0 c → MakesBy t Mul a w 0 c
times_nothing t a w c there e is = record {
  first = there;
  below = (is []).holds.below;
  same = e;
  wide = (is []).width;
  value = λ memory regs m. (is memory).holds.value regs m ∙ sym (zero_mul w (slice_index regs a));
}

-- less one time
pub times_negative : (t : Classes) (a w n c : ℕ) → MakesOf t Neg a c → width_in t a ≡ w → IsWidth w → n ≡ 2 ^ w - 1 → MakesBy t Mul a w n c
times_negative t a w n c h e is less = subst (λ k. MakesBy t Mul a w k c) (sym less) (negative_is t a c w h (h.wide ∙ e) is).makes

pub negative_of_times : (t : Classes) (a w n c : ℕ) → MakesBy t Mul a w n c → IsWidth w → n ≡ 2 ^ w - 1 → MakesOf t Neg a c
negative_of_times t a w n c h is less = record {
  first = h.first;
  below = h.below;
  wide = h.wide ∙ sym h.same;
  value = λ memory regs m.
      (let fits : slice_index regs a < 2 ^ w = subst (λ v. slice_index regs a < 2 ^ v) h.same (m.values a h.first) in
      h.value memory regs m ∙ ap (apply2_of Mul w (slice_index regs a)) less ∙ neg_times w (slice_index regs a) is.0 fits
      ∙ (λ i. apply1_of Neg (sym h.same i) (slice_index regs a)));
}

module _ (old new : Classes) (g : Grows old new) where
  -- a sum of multiples of one class
  pub multiples_sum : (x y w s k n a b c : ℕ) → IsMultiple old x w s a → IsMultiple old y w k b → AreSame old x y → n ≡ apply2_of Add w s k → MakesBy new Mul x w n c → Makes new Add a b c
  multiples_sum x y w s k n a b c p q same e h =
      let p1 : MakesBy new Mul x w s a = makes_by_kept old new g Mul x w s a p.makes in
      let q1 : MakesBy new Mul y w k b = makes_by_kept old new g Mul y w k b q.makes in
      let same1 : AreSame new x y = same_kept old new g x y same in
      record {
        first = p1.below;
        second = q1.below;
        below = h.below;
        same = q1.wide ∙ sym p1.wide;
        wide = h.wide ∙ sym p1.wide;
        value = λ memory regs m.
            (let z = slice_index regs x in
            let left : apply2_of Mul w z s ≡ slice_index regs a = sym (p1.value memory regs m) in
            let right : apply2_of Mul w z k ≡ slice_index regs b = ap (λ v. apply2_of Mul w v k) (same1.value memory regs m) ∙ sym (q1.value memory regs m) in
            h.value memory regs m ∙ ap (apply2_of Mul w z) e ∙ mul_split w z s k
            ∙ (λ i. apply2_of Add (sym p1.wide i) (left i) (right i)));
      }

  -- so many times a multiple
  pub multiple_times : (x w s k n a c : ℕ) → IsMultiple old x w s a → n ≡ apply2_of Mul w s k → MakesBy new Mul x w n c → MakesBy new Mul a w k c
  multiple_times x w s k n a c p e h =
      let p1 : MakesBy new Mul x w s a = makes_by_kept old new g Mul x w s a p.makes in
      record {
        first = p1.below;
        below = h.below;
        same = p1.wide;
        wide = h.wide;
        value = λ memory regs m.
            (let z = slice_index regs x in
            h.value memory regs m ∙ ap (apply2_of Mul w z) e ∙ sym (assoc_mul w z s k) ∙ ap (λ v. apply2_of Mul w v k) (sym (p1.value memory regs m)));
      }

  -- a shift by a number
  pub power_shifted : (a b w k p c : ℕ) → IsSized old [] b w k → k < w → p ≡ apply2_of Shl w 1 k → MakesBy new Mul a w p c → Makes new Shl a b c
  power_shifted a b w k p c s less e h = record {
    first = h.first;
    second = (let q : b < class_count old = (s.number [] tt).below in omega (arith, q, g.longer));
    below = h.below;
    same = literal_width old new g b w k s ∙ sym h.same;
    wide = h.wide ∙ sym h.same;
    value = λ memory regs m.
        (let z = slice_index regs a in
        let y : slice_index regs b ≡ k = literal_value old new g b w k s memory regs m in
        let one : 1 * 2 ^ k ≡ 2 ^ k = omega arith in
        let power : p ≡ 2 ^ k = e ∙ shl_is w 1 k less ∙ ap (λ n. n % 2 ^ w) one ∙ mod-eq_of_lt (pow_below k w less) in
        h.value memory regs m ∙ ap (apply2_of Mul w z) power ∙ mul_shl w z k less ∙ (λ i. apply2_of Shl (sym h.same i) z (sym y i)));
  }

-- so many times each term of a sum
pub terms_times : (t : Classes) (a p l w n x y c : ℕ) → Makes t Add p l a → MakesBy t Mul p w n x → MakesBy t Mul l w n y → Makes t Add x y c → MakesBy t Mul a w n c
terms_times t a p l w n x y c terms h k s = record {
  first = terms.below;
  below = s.below;
  same = terms.wide ∙ h.same;
  wide = s.wide ∙ h.wide;
  value = λ memory regs m.
      (let u = slice_index regs p in
      let v = slice_index regs l in
      let left : slice_index regs x ≡ apply2_of Mul w n u = h.value memory regs m ∙ comm Mul w u n tt in
      let right : slice_index regs y ≡ apply2_of Mul w n v = k.value memory regs m ∙ comm Mul w v n tt in
      let whole : apply2_of Add w u v ≡ slice_index regs a = (λ i. apply2_of Add (sym h.same i) u v) ∙ sym (terms.value memory regs m) in
      s.value memory regs m ∙ (λ i. apply2_of Add (h.wide i) (left i) (right i)) ∙ sym (mul_split w n u v)
      ∙ ap (apply2_of Mul w n) whole ∙ comm Mul w n (slice_index regs a) tt);
}
