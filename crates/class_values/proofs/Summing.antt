-- Operators over classes in one form, and sums term by term.
use Rattle.std.proofs.Common.{◌≡◌, ◌==◌, inl, inr, ℕ, zero, suc, ◌+◌, ◌-◌, ◌%◌, ◌^◌, ◌<◌, ◌≤◌, List, [], ◌∙◌, refl, sym, ap, subst, slice_index, arith}
use Rattle.std.proofs.Math.Logic.{∥∥₁_elim}
use Rattle.std.proofs.Math.Nat.{ℕ_set, mod-eq_of_lt, mod-lt, mod_self}
use Rattle.std.proofs.lemmas.Nat.{pow_pos}
use Rattle.std.proofs.lemmas.Bool.{cases_eq, eq-eqb, ne_eqb}
use Rattle.rec_bits.specs.declared.operator.Op1.{Op1}
use Rattle.rec_bits.specs.declared.operator.Op1.TheVariants.{Neg}
use Rattle.rec_bits.specs.declared.operator.Op2.{Op2}
use Rattle.rec_bits.specs.declared.operator.Op2.TheVariants.{Add, Sub, Mul, And, Or, Xor, Eq}
use Rattle.rec_bits.specs.Operators.{IsWidth, apply1_of, apply2_of, bit_of, result_width}
use Rattle.sym_expr.specs.declared.pool.Node.TheVariants.{Bin, Un}
use Rattle.tree_laws.specs.declared.classes.Classes.{Classes}
use Rattle.tree_laws.specs.Classes.{Grows, NodeStands, TableMeans, class_count, width_in}
use Rattle.tree_laws.proofs.Units.{Commutes as MayCommute, assoc_add, assoc_sub, comm, neg_zero_sub, self_sub, sub_neg, sub_sum, unit_zero}
use Rattle.class_values.specs.declared.facts.Fact.{Fact}
use Rattle.class_values.specs.Values.{AreSame, HoldsWide, IsNumber}
use Rattle.class_values.specs.Inner.Sums.{Commutes, Makes, MakesBy, MakesOf}
use Rattle.class_values.specs.Inner.Numbers.{IsSized}
use Rattle.class_values.specs.Operators.{IsBin, IsMade, IsUn}
use Rattle.class_values.proofs.Grown.{at_front, front, stands_below, stands_width, was}
use Rattle.class_values.proofs.Keeping.{facts_kept, holds_kept, wide_kept}

-- ---- numbers

neg_neg : (w x : ℕ) → x < 2 ^ w → apply1_of Neg w (apply1_of Neg w x) ≡ x
neg_neg w zero less = (let n : 2 ^ w - 0 ≡ 2 ^ w = omega arith in
    let z : apply1_of Neg w 0 ≡ 0 = ap (λ k. k % 2 ^ w) n ∙ mod_self (2 ^ w) in
    ap (apply1_of Neg w) z ∙ z)
neg_neg w (suc x) less = (let s : 2 ^ w - suc x < 2 ^ w = omega (arith, less) in
    let e : 2 ^ w - (2 ^ w - suc x) ≡ suc x = omega (arith, less) in
    ap (apply1_of Neg w) (mod-eq_of_lt s) ∙ ap (λ k. k % 2 ^ w) e ∙ mod-eq_of_lt less)

neg_sum : (w p q : ℕ) → p < 2 ^ w → q < 2 ^ w → apply1_of Neg w (apply2_of Add w p q) ≡ apply2_of Add w (apply1_of Neg w p) (apply1_of Neg w q)
neg_sum w p q fp fq =
    neg_zero_sub w (apply2_of Add w p q) ∙ sub_sum w 0 p q fp fq ∙ ap (λ z. apply2_of Sub w z q) (sym (neg_zero_sub w p))
    ∙ sub_neg w (apply1_of Neg w p) q fq

-- a number added and subtracted again
add_back : (w k n : ℕ) → 1 ≤ w → k < 2 ^ w → n < 2 ^ w → apply2_of Add w (apply2_of Sub w k n) n ≡ k
add_back w k n some fk fn =
    ap (λ z. apply2_of Add w z n) (sub_neg w k n fn) ∙ assoc_add w k (apply1_of Neg w n) n
    ∙ ap (apply2_of Add w k) (comm Add w (apply1_of Neg w n) n tt ∙ sym (sub_neg w n n fn) ∙ self_sub w n) ∙ unit_zero Add w k tt some fk

pub sub_back : (w x n : ℕ) → 1 ≤ w → x < 2 ^ w → n < 2 ^ w → apply2_of Sub w (apply2_of Add w x n) n ≡ x
sub_back w x n some fx fn = assoc_sub w x n n fn ∙ ap (apply2_of Add w x) (self_sub w n) ∙ unit_zero Add w x tt some fx

eq_shift : (w x n k : ℕ) → 1 ≤ w → x < 2 ^ w → n < 2 ^ w → k < 2 ^ w → apply2_of Eq w (apply2_of Add w x n) k ≡ apply2_of Eq w x (apply2_of Sub w k n)
eq_shift w x n k some fx fn fk =
    elim (cases_eq x (apply2_of Sub w k n)) as (λ _. bit_of (apply2_of Add w x n == k) ≡ bit_of (x == apply2_of Sub w k n)) [
      | inl e ↦ ap bit_of (eq-eqb (apply2_of Add w x n) k (ap (λ z. apply2_of Add w z n) e ∙ add_back w k n some fk fn) ∙ sym (eq-eqb x (apply2_of Sub w k n) e))
      | inr d ↦ ap bit_of (ne_eqb (apply2_of Add w x n) k (λ e. d (sym (sub_back w x n some fx fn) ∙ ap (λ z. apply2_of Sub w z n) e)) ∙ sym (ne_eqb x (apply2_of Sub w k n) d))
    ]

eq_neg : (w x k : ℕ) → x < 2 ^ w → k < 2 ^ w → apply2_of Eq w (apply1_of Neg w x) k ≡ apply2_of Eq w x (apply1_of Neg w k)
eq_neg w x k fx fk =
    elim (cases_eq x (apply1_of Neg w k)) as (λ _. bit_of (apply1_of Neg w x == k) ≡ bit_of (x == apply1_of Neg w k)) [
      | inl e ↦ ap bit_of (eq-eqb (apply1_of Neg w x) k (ap (apply1_of Neg w) e ∙ neg_neg w k fk) ∙ sym (eq-eqb x (apply1_of Neg w k) e))
      | inr d ↦ ap bit_of (ne_eqb (apply1_of Neg w x) k (λ e. d (sym (neg_neg w x fx) ∙ ap (apply1_of Neg w) e)) ∙ sym (ne_eqb x (apply1_of Neg w k) d))
    ]

-- ---- when the table grows

module _ (old new : Classes) (g : Grows old new) where
  pub makes_kept : (op : Op2) (a b c : ℕ) → Makes old op a b c → Makes new op a b c
  makes_kept op a b c h = record {
    first = omega (arith, h.first, g.longer);
    second = omega (arith, h.second, g.longer);
    below = omega (arith, h.below, g.longer);
    same = g.widths b h.second ∙ h.same ∙ sym (g.widths a h.first);
    wide = g.widths c h.below ∙ h.wide ∙ ap (result_width op) (sym (g.widths a h.first));
    value = λ memory regs m. ∥∥₁_elim old.meanings (ℕ_set _ _) (λ before.
        let o = was old new g memory regs before m in
        let x : slice_index (front old new g regs) a ≡ slice_index regs a = at_front old new g regs a h.first in
        let y : slice_index (front old new g regs) b ≡ slice_index regs b = at_front old new g regs b h.second in
        let w = sym (g.widths a h.first) in
        sym (at_front old new g regs c h.below) ∙ h.value memory (front old new g regs) o ∙ (λ i. apply2_of op (w i) (x i) (y i)));
  }

  pub same_kept : (a b : ℕ) → AreSame old a b → AreSame new a b
  same_kept a b h = record {
    first = omega (arith, h.first, g.longer);
    second = omega (arith, h.second, g.longer);
    value = λ memory regs m. ∥∥₁_elim old.meanings (ℕ_set _ _) (λ before.
        let o = was old new g memory regs before m in
        sym (at_front old new g regs a h.first) ∙ h.value memory (front old new g regs) o ∙ at_front old new g regs b h.second);
  }

  pub makes_by_kept : (op : Op2) (a w n c : ℕ) → MakesBy old op a w n c → MakesBy new op a w n c
  makes_by_kept op a w n c h = record {
    first = omega (arith, h.first, g.longer);
    below = omega (arith, h.below, g.longer);
    same = g.widths a h.first ∙ h.same;
    wide = g.widths c h.below ∙ h.wide;
    value = λ memory regs m. ∥∥₁_elim old.meanings (ℕ_set _ _) (λ before.
        let o = was old new g memory regs before m in
        sym (at_front old new g regs c h.below) ∙ h.value memory (front old new g regs) o ∙ ap (λ z. apply2_of op w z n) (at_front old new g regs a h.first));
  }

  pub makes_of_kept : (op : Op1) (a c : ℕ) → MakesOf old op a c → MakesOf new op a c
  makes_of_kept op a c h = record {
    first = omega (arith, h.first, g.longer);
    below = omega (arith, h.below, g.longer);
    wide = g.widths c h.below ∙ h.wide ∙ sym (g.widths a h.first);
    value = λ memory regs m. ∥∥₁_elim old.meanings (ℕ_set _ _) (λ before.
        let o = was old new g memory regs before m in
        let x : slice_index (front old new g regs) a ≡ slice_index regs a = at_front old new g regs a h.first in
        let w = sym (g.widths a h.first) in
        sym (at_front old new g regs c h.below) ∙ h.value memory (front old new g regs) o ∙ (λ i. apply1_of op (w i) (x i)));
  }

  -- ---- listed operators

  pub listed_makes : (op : Op2) (a b c : ℕ) → a < class_count old → b < class_count old → width_in old a ≡ width_in old b → NodeStands new (Bin op a b) c → Makes new op a b c
  listed_makes op a b c p q e s = record {
    first = omega (arith, p, g.longer);
    second = omega (arith, q, g.longer);
    below = stands_below new (Bin op a b) c s;
    same = g.widths b q ∙ sym e ∙ sym (g.widths a p);
    wide = sym (stands_width new (Bin op a b) c s);
    value = λ memory regs m. sym (s memory regs m).value;
  }

  pub listed_makes_of : (op : Op1) (a c : ℕ) → a < class_count old → NodeStands new (Un op a) c → MakesOf new op a c
  listed_makes_of op a c p s = record {
    first = omega (arith, p, g.longer);
    below = stands_below new (Un op a) c s;
    wide = sym (stands_width new (Un op a) c s);
    value = λ memory regs m. sym (s memory regs m).value;
  }

  -- ---- literals

  module _ (l w n : ℕ) (s : IsSized old [] l w n) where
    literal_there : l < class_count old
    literal_there = (s.number [] tt).below

    pub literal_value : (memory regs : List ℕ) → TableMeans new memory regs → slice_index regs l ≡ n
    literal_value memory regs m = (holds_kept old new g memory l n (s.number memory tt)).value regs m

    pub literal_width : width_in new l ≡ w
    literal_width = g.widths l literal_there ∙ s.width

  -- ---- sums with numbers

  pub number_raised : (op : Op2) (base w n k m c : ℕ) → result_width op w ≡ w → IsSized old [] base w n → m ≡ apply2_of op w n k → IsNumber new w m c → MakesBy new op base w k c
  number_raised op base w n k m c r s e is = record {
    first = (let p = literal_there base w n s in omega (arith, p, g.longer));
    below = (is []).holds.below;
    same = literal_width base w n s;
    wide = (is []).width ∙ sym r;
    value = λ memory regs t. (is memory).holds.value regs t ∙ e ∙ ap (λ z. apply2_of op w z k) (sym (literal_value base w n s memory regs t));
  }

  pub listed_by : (op : Op2) (base w k l c : ℕ) → IsNumber old w k l → Makes new op base l c → MakesBy new op base w k c
  listed_by op base w k l c is h =
      let there : l < class_count old = (is []).holds.below in
      let same : width_in new base ≡ w = sym h.same ∙ g.widths l there ∙ (is []).width in
      record {
        first = h.first;
        below = h.below;
        same = same;
        wide = h.wide ∙ ap (result_width op) same;
        value = λ memory regs m.
            (let e : slice_index regs l ≡ k = (holds_kept old new g memory l k (is memory).holds).value regs m in
            h.value memory regs m ∙ (λ i. apply2_of op (same i) (slice_index regs base) (e i)));
      }

  pub makes_by_literal : (op : Op2) (a b w k c : ℕ) → IsSized old [] b w k → MakesBy new op a w k c → Makes new op a b c
  makes_by_literal op a b w k c s h = record {
    first = h.first;
    second = (let p = literal_there b w k s in omega (arith, p, g.longer));
    below = h.below;
    same = literal_width b w k s ∙ sym h.same;
    wide = h.wide ∙ ap (result_width op) (sym h.same);
    value = λ memory regs m.
        (let e = literal_value b w k s memory regs m in
        h.value memory regs m ∙ (λ i. apply2_of op (sym h.same i) (slice_index regs a) (sym e i)));
  }

  -- a sum that ends with a number
  pub twice_raised : (a b p l w n k m c : ℕ) → Makes old Add p l a → IsSized old [] l w n → IsSized old [] b w k → m ≡ apply2_of Add w n k → MakesBy new Add p w m c → Makes new Add a b c
  twice_raised a b p l w n k m c terms last s e h =
      let t : Makes new Add p l a = makes_kept Add p l a terms in
      let own : w ≡ width_in new a = sym h.same ∙ sym t.wide in
      record {
        first = t.below;
        second = (let q = literal_there b w k s in omega (arith, q, g.longer));
        below = h.below;
        same = literal_width b w k s ∙ own;
        wide = h.wide ∙ own;
        value = λ memory regs o.
            (let x = literal_value l w n last memory regs o in
            let y = literal_value b w k s memory regs o in
            let whole : apply2_of Add w (slice_index regs p) n ≡ slice_index regs a = (λ i. apply2_of Add (sym h.same i) (slice_index regs p) (sym x i)) ∙ sym (t.value memory regs o) in
            h.value memory regs o ∙ ap (apply2_of Add w (slice_index regs p)) e ∙ sym (assoc_add w (slice_index regs p) n k) ∙ (λ i. apply2_of Add (own i) (whole i) (sym y i)));
      }

  pub negative_number_made : (a w n m c : ℕ) → IsSized old [] a w n → m ≡ apply1_of Neg w n → IsNumber new w m c → MakesOf new Neg a c
  negative_number_made a w n m c s e is = record {
    first = (let p = literal_there a w n s in omega (arith, p, g.longer));
    below = (is []).holds.below;
    wide = (is []).width ∙ sym (literal_width a w n s);
    value = λ memory regs t.
        (let x = literal_value a w n s memory regs t in
        let v = literal_width a w n s in
        (is memory).holds.value regs t ∙ e ∙ (λ i. apply1_of Neg (sym v i) (sym x i)));
  }

  -- ---- equations with numbers

  pub equal_shifted : (a p l w n k m c : ℕ) → Makes old Add p l a → IsSized old [] l w n → m ≡ apply2_of Sub w k n → k < 2 ^ w → MakesBy new Eq p w m c → MakesBy new Eq a w k c
  equal_shifted a p l w n k m c terms last e fits h =
      let t : Makes new Add p l a = makes_kept Add p l a terms in
      record {
        first = t.below;
        below = h.below;
        same = t.wide ∙ h.same;
        wide = h.wide;
        value = λ memory regs o.
            (let x = literal_value l w n last memory regs o in
            let whole : apply2_of Add w (slice_index regs p) n ≡ slice_index regs a = (λ i. apply2_of Add (sym h.same i) (slice_index regs p) (sym x i)) ∙ sym (t.value memory regs o) in
            let less : slice_index regs p < 2 ^ w = subst (λ v. slice_index regs p < 2 ^ v) h.same (o.values p t.first) in
            h.value memory regs o ∙ ap (apply2_of Eq w (slice_index regs p)) e ∙ sym (eq_shift w (slice_index regs p) n k last.is_width.0 less last.fits fits)
            ∙ ap (λ z. apply2_of Eq w z k) whole);
      }

  pub equal_turned : (a x w k m c : ℕ) → MakesOf old Neg x a → m ≡ apply1_of Neg w k → k < 2 ^ w → MakesBy new Eq x w m c → MakesBy new Eq a w k c
  equal_turned a x w k m c negative e fits h =
      let t : MakesOf new Neg x a = makes_of_kept Neg x a negative in
      record {
        first = t.below;
        below = h.below;
        same = t.wide ∙ h.same;
        wide = h.wide;
        value = λ memory regs o.
            (let whole : apply1_of Neg w (slice_index regs x) ≡ slice_index regs a = (λ i. apply1_of Neg (sym h.same i) (slice_index regs x)) ∙ sym (t.value memory regs o) in
            let less : slice_index regs x < 2 ^ w = subst (λ v. slice_index regs x < 2 ^ v) h.same (o.values x t.first) in
            h.value memory regs o ∙ ap (apply2_of Eq w (slice_index regs x)) e ∙ sym (eq_neg w (slice_index regs x) k less fits)
            ∙ ap (λ z. apply2_of Eq w z k) whole);
      }

-- values are one where their difference is 0
difference_is_none : (w x y : ℕ) → 1 ≤ w → x < 2 ^ w → y < 2 ^ w → apply2_of Eq w x y ≡ apply2_of Eq w (apply2_of Sub w x y) 0
difference_is_none w x y some fx fy =
    ap (λ z. apply2_of Eq w z y) (sym (add_back w x y some fx fy)) ∙ eq_shift w (apply2_of Sub w x y) y y some (mod-lt (x + 2 ^ w - y) (pow_pos w)) fy fy
    ∙ ap (apply2_of Eq w (apply2_of Sub w x y)) (self_sub w y)

module _ (old new : Classes) (g : Grows old new) where
  pub difference_decides : (a b rest w n k c : ℕ) → Makes old Sub a b rest → IsSized old [] rest w n → k ≡ apply2_of Eq w n 0 → IsNumber new 1 k c → Makes new Eq a b c
  difference_decides a b rest w n k c h s e is =
      let d : Makes new Sub a b rest = makes_kept old new g Sub a b rest h in
      let own : w ≡ width_in new a = sym (literal_width old new g rest w n s) ∙ d.wide in
      record {
        first = d.first;
        second = d.second;
        below = (is []).holds.below;
        same = d.same;
        wide = (is []).width;
        value = λ memory regs m.
            (let v = width_in new a in
            let x = slice_index regs a in
            let y = slice_index regs b in
            let less : y < 2 ^ v = subst (λ u. y < 2 ^ u) d.same (m.values b d.second) in
            let some : 1 ≤ v = (m.widths a d.first).0 in
            let told : n ≡ apply2_of Sub v x y = sym (literal_value old new g rest w n s memory regs m) ∙ d.value memory regs m in
            (is memory).holds.value regs m ∙ e ∙ (λ i. apply2_of Eq (own i) (told i) 0) ∙ sym (difference_is_none v x y some (m.values a d.first) less));
      }

pub nothing_raised : (t : Classes) (base w : ℕ) → base < class_count t → width_in t base ≡ w → MakesBy t Add base w 0 base
nothing_raised t base w below e = record {
  first = below;
  below = below;
  same = e;
  wide = e;
  value = λ memory regs m.
      (let some : 1 ≤ w = (subst IsWidth e (m.widths base below)).0 in
      let fits : slice_index regs base < 2 ^ w = subst (λ v. slice_index regs base < 2 ^ v) e (m.values base below) in
      sym (unit_zero Add w (slice_index regs base) tt some fits));
}

-- ---- in one table

module _ (t : Classes) where
  may_commute : (o : Op2) → Commutes o → MayCommute o
  may_commute Add h = tt
  may_commute Mul h = tt
  may_commute And h = tt
  may_commute Or h = tt
  may_commute Xor h = tt
  may_commute Eq h = tt
  may_commute _ h = absurd h

  -- the operands exchanged
  pub turned : (op : Op2) (a b c : ℕ) → Commutes op → Makes t op b a c → Makes t op a b c
  turned op a b c k h = record {
    first = h.second;
    second = h.first;
    below = h.below;
    same = sym h.same;
    wide = h.wide ∙ ap (result_width op) (sym h.same);
    value = λ memory regs m.
        h.value memory regs m ∙ (λ i. apply2_of op (sym h.same i) (slice_index regs b) (slice_index regs a))
        ∙ comm op (width_in t a) (slice_index regs b) (slice_index regs a) (may_commute op k);
  }

  -- a sum of earlier classes
  pub terms_make : (first last class found : ℕ) → first < class_count t → last < class_count t → class < class_count t → width_in t last ≡ width_in t first → width_in t class ≡ width_in t first → AreSame t class found → NodeStands t (Bin Add first last) found → Makes t Add first last class
  terms_make first last class found p q r e f same s = record {
    first = p;
    second = q;
    below = r;
    same = e;
    wide = f;
    value = λ memory regs m. same.value memory regs m ∙ sym (s memory regs m).value;
  }

  pub opposite_makes : (a class found : ℕ) → a < class_count t → class < class_count t → width_in t class ≡ width_in t a → AreSame t class found → NodeStands t (Un Neg a) found → MakesOf t Neg a class
  opposite_makes a class found p r f same s = record {
    first = p;
    below = r;
    wide = f;
    value = λ memory regs m. same.value memory regs m ∙ sym (s memory regs m).value;
  }

  -- the terms of the second operand behind the first
  pub grouped : (a b p q r c : ℕ) → Makes t Add p q b → Makes t Add a p r → Makes t Add r q c → Makes t Add a b c
  grouped a b p q r c terms x y = record {
    first = x.first;
    second = terms.below;
    below = y.below;
    same = terms.wide ∙ x.same;
    wide = y.wide ∙ x.wide;
    value = λ memory regs m.
        (let w = width_in t a in
        let first = x.value memory regs m in
        let second : apply2_of Add w (slice_index regs p) (slice_index regs q) ≡ slice_index regs b = (λ i. apply2_of Add (sym x.same i) (slice_index regs p) (slice_index regs q)) ∙ sym (terms.value memory regs m) in
        y.value memory regs m ∙ (λ i. apply2_of Add (x.wide i) (first i) (slice_index regs q))
        ∙ assoc_add w (slice_index regs a) (slice_index regs p) (slice_index regs q) ∙ ap (apply2_of Add w (slice_index regs a)) second);
  }

  -- a last term that is joined with one more
  pub regrouped : (a b p l r c : ℕ) → Makes t Add p l a → Makes t Add l b r → Makes t Add p r c → Makes t Add a b c
  regrouped a b p l r c terms x y = record {
    first = terms.below;
    second = x.second;
    below = y.below;
    same = x.same ∙ terms.same ∙ sym terms.wide;
    wide = y.wide ∙ sym terms.wide;
    value = λ memory regs m.
        (let w = width_in t p in
        let both : slice_index regs r ≡ apply2_of Add w (slice_index regs l) (slice_index regs b) = x.value memory regs m ∙ (λ i. apply2_of Add (terms.same i) (slice_index regs l) (slice_index regs b)) in
        y.value memory regs m ∙ ap (apply2_of Add w (slice_index regs p)) both
        ∙ sym (assoc_add w (slice_index regs p) (slice_index regs l) (slice_index regs b))
        ∙ (λ i. apply2_of Add (sym terms.wide i) (sym (terms.value memory regs m) i) (slice_index regs b)));
  }

  -- a term before the last one
  pub inserted : (a b p l r c : ℕ) → Makes t Add p l a → Makes t Add p b r → Makes t Add r l c → Makes t Add a b c
  inserted a b p l r c terms x y = record {
    first = terms.below;
    second = x.second;
    below = y.below;
    same = x.same ∙ sym terms.wide;
    wide = y.wide ∙ x.wide ∙ sym terms.wide;
    value = λ memory regs m.
        (let w = width_in t p in
        let first = x.value memory regs m in
        let whole = terms.value memory regs m in
        y.value memory regs m ∙ (λ i. apply2_of Add (x.wide i) (first i) (slice_index regs l))
        ∙ assoc_add w (slice_index regs p) (slice_index regs b) (slice_index regs l)
        ∙ ap (apply2_of Add w (slice_index regs p)) (comm Add w (slice_index regs b) (slice_index regs l) tt)
        ∙ sym (assoc_add w (slice_index regs p) (slice_index regs l) (slice_index regs b))
        ∙ (λ i. apply2_of Add (sym terms.wide i) (sym whole i) (slice_index regs b)));
  }

  -- ---- negatives

  -- of a sum
  pub terms_negative : (a p l x y c : ℕ) → Makes t Add p l a → MakesOf t Neg p x → MakesOf t Neg l y → Makes t Add x y c → MakesOf t Neg a c
  terms_negative a p l x y c terms h k s = record {
    first = terms.below;
    below = s.below;
    wide = s.wide ∙ h.wide ∙ sym terms.wide;
    value = λ memory regs m.
        (let w = width_in t p in
        let first = h.value memory regs m in
        let last : slice_index regs y ≡ apply1_of Neg w (slice_index regs l) = k.value memory regs m ∙ (λ i. apply1_of Neg (terms.same i) (slice_index regs l)) in
        let fits : slice_index regs l < 2 ^ w = subst (λ v. slice_index regs l < 2 ^ v) terms.same (m.values l terms.second) in
        let whole = terms.value memory regs m in
        s.value memory regs m ∙ (λ i. apply2_of Add (h.wide i) (first i) (last i))
        ∙ sym (neg_sum w (slice_index regs p) (slice_index regs l) (m.values p terms.first) fits)
        ∙ (λ i. apply1_of Neg (sym terms.wide i) (sym whole i)));
  }

  -- a difference by the sum with the negative
  pub difference_made : (a b n c : ℕ) → MakesOf t Neg b n → Makes t Add a n c → Makes t Sub a b c
  difference_made a b n c h s =
      let same : width_in t b ≡ width_in t a = sym h.wide ∙ s.same in
      record {
        first = s.first;
        second = h.first;
        below = s.below;
        same = same;
        wide = s.wide;
        value = λ memory regs m.
            (let w = width_in t a in
            let minus : slice_index regs n ≡ apply1_of Neg w (slice_index regs b) = h.value memory regs m ∙ (λ i. apply1_of Neg (same i) (slice_index regs b)) in
            let fits : slice_index regs b < 2 ^ w = subst (λ v. slice_index regs b < 2 ^ v) same (m.values b h.first) in
            s.value memory regs m ∙ ap (apply2_of Add w (slice_index regs a)) minus ∙ sym (sub_neg w (slice_index regs a) (slice_index regs b) fits));
      }

-- ---- values in a memory

module _ (old new : Classes) (g : Grows old new) (facts : List Fact) where
  pub un_of : (op : Op1) (a c : ℕ) → MakesOf new op a c → IsUn old new facts op a c
  un_of op a c made memory x f h =
      let k = g.widths a h.below in
      record {
        holds = record {
          below = made.below;
          value = λ regs m. (let e = (holds_kept old new g memory a x h).value regs m in made.value memory regs m ∙ (λ i. apply1_of op (k i) (e i)));
        };
        width = made.wide ∙ k;
      }

pub same_made : (t : Classes) (facts : List Fact) (a : ℕ) → IsMade t t facts a (width_in t a) (λ x. x) a
same_made t facts a memory x f h = record { holds = h; width = refl }

module _ (t0 t1 t2 t3 : Classes) (g1 : Grows t0 t1) (g2 : Grows t1 t2) (g3 : Grows t2 t3) (facts : List Fact) where
  pub bin_of : (op : Op2) (a b left right c : ℕ) → IsMade t0 t1 facts a (width_in t0 a) (λ x. x) left → IsMade t1 t2 facts b (width_in t1 b) (λ x. x) right → Makes t3 op left right c → IsBin t0 t3 facts op a b c
  bin_of op a b left right c p q made memory x y f hx hy =
      let l1 : HoldsWide t1 memory left (width_in t0 a) x = p memory x f hx in
      let r2 = q memory y (facts_kept t0 t1 g1 memory facts f) (holds_kept t0 t1 g1 memory b y hy) in
      let l3 = wide_kept t2 t3 g3 memory left (width_in t0 a) x (wide_kept t1 t2 g2 memory left (width_in t0 a) x l1) in
      let r3 = holds_kept t2 t3 g3 memory right y r2.holds in
      record {
        holds = record {
          below = made.below;
          value = λ regs m.
              (let u = l3.holds.value regs m in
              let v = r3.value regs m in
              made.value memory regs m ∙ (λ i. apply2_of op (l3.width i) (u i) (v i)));
        };
        width = made.wide ∙ ap (result_width op) l3.width;
      }
