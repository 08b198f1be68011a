-- Low bits of classes in one form.
use Rattle.std.proofs.Common.{◌≡◌, ℕ, ◌+◌, ◌-◌, ◌%◌, ◌^◌, ◌<◌, ◌≤◌, List, [], ◌∙◌, refl, sym, ap, subst, slice_index, arith}
use Rattle.std.proofs.Math.Logic.{∥∥₁_elim}
use Rattle.std.proofs.Math.Nat.{ℕ_set, mod-eq_of_lt}
use Rattle.rec_bits.specs.declared.operator.Op1.{Op1}
use Rattle.rec_bits.specs.declared.operator.Op2.{Op2}
use Rattle.rec_bits.specs.declared.operator.Op2.TheVariants.{Add, Sub, Mul, And, Or, Xor}
use Rattle.rec_bits.specs.Operators.{apply1_of, apply2_of, result_width, sext_of, slice_of}
use Rattle.sym_expr.specs.declared.pool.Node.TheVariants.{Bin, Sext, Slice, Un, Zext}
use Rattle.tree_laws.specs.declared.classes.Classes.{Classes}
use Rattle.tree_laws.specs.Classes.{Grows, NodeStands, class_count, width_in}
use Rattle.tree_laws.proofs.Low.{low_low, sext_low, slice_low}
use Rattle.tree_laws.proofs.Ring.{IsRing2, ring1, ring2}
use Rattle.class_values.specs.declared.facts.Fact.{Fact}
use Rattle.class_values.specs.Values.{AreSame, IsNumber}
use Rattle.class_values.specs.Inner.Sums.{ActsOnLow, HasLow, Makes, MakesOf, SharesLow}
use Rattle.class_values.specs.Inner.Numbers.{IsSized}
use Rattle.class_values.specs.Operators.{IsSlice}
use Rattle.class_values.proofs.Grown.{at_front, front, stands_below, stands_width, was}
use Rattle.class_values.proofs.Keeping.{holds_kept}

as_ring : (o : Op2) → ActsOnLow o → IsRing2 o
as_ring Add h = tt
as_ring Sub h = tt
as_ring Mul h = tt
as_ring And h = tt
as_ring Or h = tt
as_ring Xor h = tt
as_ring _ h = absurd h

pub same_width : (o : Op2) (w : ℕ) → ActsOnLow o → result_width o w ≡ w
same_width Add w h = refl
same_width Sub w h = refl
same_width Mul w h = refl
same_width And w h = refl
same_width Or w h = refl
same_width Xor w h = refl
same_width _ w h = absurd h

-- ---- when the table grows

module _ (old new : Classes) (g : Grows old new) where
  pub low_kept : (a hi c : ℕ) → HasLow old a hi c → HasLow new a hi c
  low_kept a hi c h = record {
    first = omega (arith, h.first, g.longer);
    below = omega (arith, h.below, g.longer);
    inside = subst (λ w. hi < w) (sym (g.widths a h.first)) h.inside;
    wide = g.widths c h.below ∙ h.wide;
    value = λ memory regs m. ∥∥₁_elim old.meanings (ℕ_set _ _) (λ before.
        let o = was old new g memory regs before m in
        sym (at_front old new g regs c h.below) ∙ h.value memory (front old new g regs) o ∙ ap (λ n. n % 2 ^ (hi + 1)) (at_front old new g regs a h.first));
  }

  pub shared_low : (a hi inner c : ℕ) → SharesLow old a hi inner → HasLow new inner hi c → HasLow new a hi c
  shared_low a hi inner c s h = record {
    first = omega (arith, s.first, g.longer);
    below = h.below;
    inside = subst (λ w. hi < w) (sym (g.widths a s.first)) s.inside;
    wide = h.wide;
    value = λ memory regs m. h.value memory regs m ∙ ∥∥₁_elim old.meanings (ℕ_set _ _) (λ before.
        let o = was old new g memory regs before m in
        ap (λ n. n % 2 ^ (hi + 1)) (sym (at_front old new g regs inner s.second)) ∙ s.value memory (front old new g regs) o
        ∙ ap (λ n. n % 2 ^ (hi + 1)) (at_front old new g regs a s.first));
  }

  pub listed_is_low : (a hi c : ℕ) → a < class_count old → hi < width_in old a → NodeStands new (Slice a hi 0) c → HasLow new a hi c
  listed_is_low a hi c p q s = record {
    first = omega (arith, p, g.longer);
    below = stands_below new (Slice a hi 0) c s;
    inside = subst (λ w. hi < w) (sym (g.widths a p)) q;
    wide = (let e : hi + 1 - 0 ≡ hi + 1 = omega arith in sym (stands_width new (Slice a hi 0) c s) ∙ e);
    value = λ memory regs m. sym (s memory regs m).value ∙ slice_low (slice_index regs a) hi;
  }

  pub number_is_low : (a hi w n k c : ℕ) → IsSized old [] a w n → hi < w → k ≡ slice_of n hi 0 → IsNumber new (hi + 1) k c → HasLow new a hi c
  number_is_low a hi w n k c s less e is =
      let there : a < class_count old = (s.number [] tt).below in
      record {
        first = omega (arith, there, g.longer);
        below = (is []).holds.below;
        inside = subst (λ v. hi < v) (sym (g.widths a there ∙ s.width)) less;
        wide = (is []).width;
        value = λ memory regs m.
            (let x : slice_index regs a ≡ n = (holds_kept old new g memory a n (s.number memory tt)).value regs m in
            (is memory).holds.value regs m ∙ e ∙ slice_low n hi ∙ ap (λ z. z % 2 ^ (hi + 1)) (sym x));
      }

  pub slice_of_low_bits : (facts : List Fact) (a hi c : ℕ) → HasLow new a hi c → IsSlice old new facts a hi 0 c
  slice_of_low_bits facts a hi c h memory x f k = record {
    holds = record {
      below = h.below;
      value = λ regs m.
          (let e : slice_index regs a ≡ x = (holds_kept old new g memory a x k).value regs m in
          h.value memory regs m ∙ ap (λ z. z % 2 ^ (hi + 1)) e ∙ sym (slice_low x hi));
    };
    width = (let e : hi + 1 - 0 ≡ hi + 1 = omega arith in h.wide ∙ sym e);
  }

-- ---- in one table

module _ (t : Classes) where
  pub whole_is_low : (a hi : ℕ) → a < class_count t → width_in t a ≡ hi + 1 → HasLow t a hi a
  whole_is_low a hi below e = record {
    first = below;
    below = below;
    inside = omega (arith, e);
    wide = e;
    value = λ memory regs m. sym (mod-eq_of_lt (subst (λ w. slice_index regs a < 2 ^ w) e (m.values a below)));
  }

  pub binary_low : (op : Op2) (a p q x y hi c : ℕ) → ActsOnLow op → Makes t op p q a → HasLow t p hi x → HasLow t q hi y → Makes t op x y c → HasLow t a hi c
  binary_low op a p q x y hi c low made left right s =
      let own : width_in t a ≡ width_in t p = made.wide ∙ same_width op (width_in t p) low in
      record {
        first = made.below;
        below = s.below;
        inside = subst (λ w. hi < w) (sym own) left.inside;
        wide = s.wide ∙ same_width op (width_in t x) low ∙ left.wide;
        value = λ memory regs m.
            (let u = left.value memory regs m in
            let v = right.value memory regs m in
            let within = left.inside in
            let le : hi + 1 ≤ width_in t p = omega (arith, within) in
            let fits : slice_index regs q < 2 ^ width_in t p = subst (λ w. slice_index regs q < 2 ^ w) made.same (m.values q made.second) in
            s.value memory regs m ∙ (λ i. apply2_of op (left.wide i) (u i) (v i))
            ∙ sym (ring2 op (width_in t p) (hi + 1) (slice_index regs p) (slice_index regs q) (as_ring op low) le fits)
            ∙ ap (λ z. z % 2 ^ (hi + 1)) (sym (made.value memory regs m)));
      }

  pub unary_low : (op : Op1) (a p x hi c : ℕ) → MakesOf t op p a → HasLow t p hi x → MakesOf t op x c → HasLow t a hi c
  unary_low op a p x hi c made low s = record {
    first = made.below;
    below = s.below;
    inside = subst (λ w. hi < w) (sym made.wide) low.inside;
    wide = s.wide ∙ low.wide;
    value = λ memory regs m.
        (let u = low.value memory regs m in
        let within = low.inside in
        let le : hi + 1 ≤ width_in t p = omega (arith, within) in
        s.value memory regs m ∙ (λ i. apply1_of op (low.wide i) (u i)) ∙ sym (ring1 op (width_in t p) (hi + 1) (slice_index regs p) le (m.values p made.first))
        ∙ ap (λ z. z % 2 ^ (hi + 1)) (sym (made.value memory regs m)));
  }

  -- a listed operator of a class
  pub binary_makes : (op : Op2) (first last class found : ℕ) → ActsOnLow op → first < class_count t → last < class_count t → class < class_count t → width_in t last ≡ width_in t first → width_in t class ≡ width_in t first → AreSame t class found → NodeStands t (Bin op first last) found
      → Makes t op first last class
  binary_makes op first last class found low p q r e f same s = record {
    first = p;
    second = q;
    below = r;
    same = e;
    wide = f ∙ sym (same_width op (width_in t first) low);
    value = λ memory regs m. same.value memory regs m ∙ sym (s memory regs m).value;
  }

  pub unary_makes : (op : Op1) (a class found : ℕ) → a < class_count t → class < class_count t → width_in t class ≡ width_in t a → AreSame t class found → NodeStands t (Un op a) found → MakesOf t op a class
  unary_makes op a class found p r f same s = record {
    first = p;
    below = r;
    wide = f;
    value = λ memory regs m. same.value memory regs m ∙ sym (s memory regs m).value;
  }

  pub zext_shares : (class inner own hi found : ℕ) → class < class_count t → inner < class_count t → hi < width_in t inner → width_in t inner < width_in t class → AreSame t class found → NodeStands t (Zext inner own) found → SharesLow t class hi inner
  zext_shares class inner own hi found p q less more same s = record {
    first = p;
    second = q;
    inside = omega (arith, less, more);
    value = λ memory regs m. ap (λ z. z % 2 ^ (hi + 1)) ((s memory regs m).value ∙ sym (same.value memory regs m));
  }

  pub sext_shares : (class inner own hi found : ℕ) → class < class_count t → inner < class_count t → width_in t class ≡ own → hi < width_in t inner → width_in t inner < own → AreSame t class found → NodeStands t (Sext inner own) found → SharesLow t class hi inner
  sext_shares class inner own hi found p q e less more same s = record {
    first = p;
    second = q;
    inside = omega (arith, e, less, more);
    value = λ memory regs m.
        (let w = width_in t inner in
        let x = slice_index regs inner in
        let le : hi + 1 ≤ w = omega (arith, less) in
        let wider : w ≤ own = omega (arith, more) in
        sym (low_low x w (hi + 1) le) ∙ ap (λ z. z % 2 ^ (hi + 1)) (sym (sext_low x w own wider)) ∙ low_low (sext_of x w own) w (hi + 1) le
        ∙ ap (λ z. z % 2 ^ (hi + 1)) ((s memory regs m).value ∙ sym (same.value memory regs m)));
  }
