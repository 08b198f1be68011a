-- Values that are one or another by a bit, and values of two parts.
use Rattle.std.proofs.Common.{◌≡◌, ◌==◌, if◌then◌else◌, cond, inl, inr, ℕ, ◌+◌, ◌-◌, ◌*◌, ◌%◌, ◌^◌, ◌<◌, List, ◌∙◌, sym, ap, refl, subst, slice_index, arith, eq-eqb}
use Rattle.std.proofs.Math.Bridge.{le_prop}
use Rattle.std.proofs.Math.Logic.{∥∥₁_elim}
use Rattle.std.proofs.Math.Nat.{add-mod-mod, add-mod_right, mod-eq_of_lt}
use Rattle.std.proofs.lemmas.Bool.{cases_eq, ne_eqb}
use Rattle.rec_bits.specs.declared.operator.Op2.TheVariants.{Add, Sub, Mul}
use Rattle.rec_bits.specs.Operators.{apply2_of, cat_of}
use Rattle.rec_bits.proofs.Fits.{cat_below}
use Rattle.net_model.specs.Exprs.{ExprModel, cat, select, expr_width}
use Rattle.net_model.specs.Meaning.{mean}
use Rattle.tree_laws.specs.declared.classes.Classes.{Classes}
use Rattle.tree_laws.specs.Classes.{Grows, cell_bits, width_in}
use Rattle.tree_laws.specs.Equal.{CellsFit}
use Rattle.class_values.specs.declared.facts.Fact.{Fact}
use Rattle.sym_run.specs.declared.known.Known.{Known}
use Rattle.class_values.specs.Operators.{IsBin, IsZext}
use Rattle.class_values.specs.Values.{Holds, HoldsWide, IsNumber}
use Rattle.sym_run.specs.Known.{Evaluates}
use Rattle.sym_run.specs.Inner.Parts.{IsJoined}
use Rattle.sym_run.specs.Inner.Passed.{IsChosen}
use Rattle.class_values.proofs.Keeping.{facts_kept, holds_kept, wide_kept}
use Rattle.sym_run.proofs.Keeping.{known_kept}

pub value_fits : (t : Classes) (memory : List ℕ) → CellsFit (cell_bits t) memory → (c w n : ℕ) → HoldsWide t memory c w n → n < 2 ^ w
value_fits t memory fits c w n h = ∥∥₁_elim t.meanings le_prop (λ m. let x = m memory fits in
    subst (λ k. k < 2 ^ w) (h.holds.value x.0 x.1) (subst (λ u. slice_index x.0 c < 2 ^ u) h.width (x.1.values c h.holds.below)))

-- ---- by a bit

one_chosen : (w v x : ℕ) → v < 2 ^ w → x < 2 ^ w → apply2_of Add w x (apply2_of Mul w 1 (apply2_of Sub w v x)) ≡ v
one_chosen w v x p q =
    let d = (v + 2 ^ w - x) % 2 ^ w in
    let e : 1 * d ≡ d = omega arith in
    let s : x + (v + 2 ^ w - x) ≡ v + 2 ^ w = omega (arith, q) in
    add-mod-mod x (1 * d) (2 ^ w) ∙ ap (λ z. (x + z) % 2 ^ w) e ∙ add-mod-mod x (v + 2 ^ w - x) (2 ^ w) ∙ ap (λ z. z % 2 ^ w) s ∙ add-mod_right v (2 ^ w) ∙ mod-eq_of_lt p

none_chosen : (w v x : ℕ) → x < 2 ^ w → apply2_of Add w x (apply2_of Mul w 0 (apply2_of Sub w v x)) ≡ x
none_chosen w v x q =
    let d = (v + 2 ^ w - x) % 2 ^ w in
    let e : x + 0 * d ≡ x = omega arith in
    add-mod-mod x (0 * d) (2 ^ w) ∙ ap (λ z. z % 2 ^ w) e ∙ mod-eq_of_lt q

module _ (t0 t1 t2 t3 t4 : Classes) (g1 : Grows t0 t1) (g2 : Grows t1 t2) (g3 : Grows t2 t3) (g4 : Grows t3 t4) (facts : List Fact) (bit width value was factor change part c : ℕ) where
  pub chosen_made : IsZext t0 t1 facts bit width factor → IsBin t1 t2 facts Sub value was change → IsBin t2 t3 facts Mul factor change part → IsBin t3 t4 facts Add was part c → IsChosen t0 t4 facts bit width value was c
  chosen_made z d m s memory v x fits f hv hx =
      let f1 = facts_kept t0 t1 g1 memory facts f in
      let f2 = facts_kept t1 t2 g2 memory facts f1 in
      let f3 = facts_kept t2 t3 g3 memory facts f2 in
      let v1 = wide_kept t0 t1 g1 memory value width v hv in
      let x1 = wide_kept t0 t1 g1 memory was width x hx in
      let x3 = wide_kept t2 t3 g3 memory was width x (wide_kept t1 t2 g2 memory was width x x1) in
      let less : v < 2 ^ width = value_fits t0 memory fits value width v hv in
      let small : x < 2 ^ width = value_fits t0 memory fits was width x hx in
      let dif : HoldsWide t2 memory change width (apply2_of Sub width v x) = subst (λ w. HoldsWide t2 memory change w (apply2_of Sub w v x)) v1.width (d memory v x f1 v1.holds x1.holds) in
      let whole : (n : ℕ) → Holds t0 memory bit n → HoldsWide t4 memory c width (apply2_of Add width x (apply2_of Mul width n (apply2_of Sub width v x))) = λ n h.
      (let k = wide_kept t1 t2 g2 memory factor width n (z memory n f h) in
      let p : HoldsWide t3 memory part width (apply2_of Mul width n (apply2_of Sub width v x)) = subst (λ w. HoldsWide t3 memory part w (apply2_of Mul w n (apply2_of Sub width v x))) k.width (m memory n (apply2_of Sub width v x) f2 k.holds dif.holds) in
      subst (λ w. HoldsWide t4 memory c w (apply2_of Add w x (apply2_of Mul width n (apply2_of Sub width v x)))) x3.width (s memory x (apply2_of Mul width n (apply2_of Sub width v x)) f3 x3.holds p.holds)) in (
        λ h. subst (HoldsWide t4 memory c width) (one_chosen width v x less small) (whole 1 h),
        λ h. subst (HoldsWide t4 memory c width) (none_chosen width v x small) (whole 0 h),
      )

-- ---- of two parts

-- the sum of both parts is below the end of its width, so nothing is cut
parts_joined : (i j x y : ℕ) → x < 2 ^ i → y < 2 ^ j → apply2_of Add (i + j) (apply2_of Mul (i + j) x (2 ^ j)) y ≡ cat_of x y j
parts_joined i j x y p q =
    let whole : cat_of x y j < 2 ^ (i + j) = cat_below x y i j p q in
    let upper : x * 2 ^ j < 2 ^ (i + j) = omega (arith, whole) in
    ap (λ n. (n + y) % 2 ^ (i + j)) (mod-eq_of_lt upper) ∙ mod-eq_of_lt whole

module _ (t0 t1 t2 t3 t4 t5 : Classes) (g1 : Grows t0 t1) (g2 : Grows t1 t2) (g3 : Grows t2 t3) (g4 : Grows t3 t4) (facts : List Fact) (high low width factor upper lower raised c : ℕ) where
  pub joined_made : width ≡ width_in t0 high + width_in t0 low → IsNumber t1 width (2 ^ width_in t0 low) factor → IsZext t1 t2 facts high width upper → IsZext t2 t3 facts low width lower
      → IsBin t3 t4 facts Mul upper factor raised → IsBin t4 t5 facts Add raised lower c → IsJoined t0 t5 facts high low c
  joined_made e n u l m s memory x y fits f hx hy =
      let wide : ℕ = width_in t0 high + width_in t0 low in
      let xs : x < 2 ^ width_in t0 high = value_fits t0 memory fits high (width_in t0 high) x (record { holds = hx; width = refl }) in
      let ys : y < 2 ^ width_in t0 low = value_fits t0 memory fits low (width_in t0 low) y (record { holds = hy; width = refl }) in
      let f1 = facts_kept t0 t1 g1 memory facts f in
      let f2 = facts_kept t1 t2 g2 memory facts f1 in
      let f3 = facts_kept t2 t3 g3 memory facts f2 in
      let f4 = facts_kept t3 t4 g4 memory facts f3 in
      let x1 = holds_kept t0 t1 g1 memory high x hx in
      let y2 = holds_kept t1 t2 g2 memory low y (holds_kept t0 t1 g1 memory low y hy) in
      let up = wide_kept t2 t3 g3 memory upper width x (u memory x f1 x1) in
      let lo = wide_kept t3 t4 g4 memory lower width y (l memory y f2 y2) in
      let num = holds_kept t2 t3 g3 memory factor (2 ^ width_in t0 low) (holds_kept t1 t2 g2 memory factor (2 ^ width_in t0 low) (n memory).holds) in
      let product : HoldsWide t4 memory raised width (apply2_of Mul width x (2 ^ width_in t0 low)) = subst (λ w. HoldsWide t4 memory raised w (apply2_of Mul w x (2 ^ width_in t0 low))) up.width (m memory x (2 ^ width_in t0 low) f3 up.holds num) in
      let whole : HoldsWide t5 memory c width (apply2_of Add width (apply2_of Mul width x (2 ^ width_in t0 low)) y) = subst (λ w. HoldsWide t5 memory c w (apply2_of Add w (apply2_of Mul width x (2 ^ width_in t0 low)) y)) product.width
      (s memory (apply2_of Mul width x (2 ^ width_in t0 low)) y f4 product.holds lo.holds) in
      subst (HoldsWide t5 memory c wide) (parts_joined (width_in t0 high) (width_in t0 low) x y xs ys) (subst (λ w. HoldsWide t5 memory c w (apply2_of Add w (apply2_of Mul w x (2 ^ width_in t0 low)) y)) e whole)

-- ---- expressions

module _ (facts : List Fact) (known : Known) (i : ℕ) (first middle last : Classes) (g : Grows first middle) (h : Grows middle last) (e d : ExprModel) (a b : ℕ)
    (one : Evaluates first middle facts known i e a) (two : Evaluates middle last facts known i d b) where
  pub then_cat : (end : Classes) (c : ℕ) → IsJoined last end facts a b c → Evaluates first end facts known i (cat e d) c
  then_cat end c is memory s f k =
      let f1 = facts_kept first middle g memory facts f in
      let k1 = known_kept first middle g memory known s k in
      let p = wide_kept middle last h memory a (expr_width e) (mean e s i) (one memory s f k) in
      let q = two memory s f1 k1 in
      let j = is memory (mean e s i) (mean d s i) (known_kept middle last h memory known s k1).fits (facts_kept middle last h memory facts f1) p.holds q.holds in
      subst (λ w. HoldsWide end memory c (w + expr_width d) (cat_of (mean e s i) (mean d s i) (expr_width d))) p.width
      (subst (λ w. HoldsWide end memory c (width_in last a + w) (cat_of (mean e s i) (mean d s i) w)) q.width j)

  -- where a test before them has one bit, and both are as wide
  pub then_either : (start end : Classes) (o : Grows start first) (t : ExprModel) (bit c : ℕ) → Evaluates start first facts known i t bit → expr_width t ≡ 1 → expr_width d ≡ expr_width e
      → IsChosen last end facts bit (width_in last a) a b c → Evaluates start end facts known i (select t e d) c
  then_either start end o t bit c test bits same is memory s f k =
      let f0 = facts_kept start first o memory facts f in
      let k0 = known_kept start first o memory known s k in
      let f1 = facts_kept first middle g memory facts f0 in
      let k1 = known_kept first middle g memory known s k0 in
      let k2 = known_kept middle last h memory known s k1 in
      let x = test memory s f k in
      let x2 : Holds last memory bit (mean t s i) = holds_kept middle last h memory bit (mean t s i) (holds_kept first middle g memory bit (mean t s i) x.holds) in
      let p = wide_kept middle last h memory a (expr_width e) (mean e s i) (one memory s f0 k0) in
      let q = two memory s f1 k1 in
      let way = is memory (mean e s i) (mean d s i) k2.fits (facts_kept middle last h memory facts f1) (record { holds = p.holds; width = refl }) (record { holds = q.holds; width = q.width ∙ same ∙ sym p.width }) in
      let small : mean t s i < 2 = subst (λ w. mean t s i < 2 ^ w) bits (value_fits first memory k0.fits bit (expr_width t) (mean t s i) x) in
      elim (cases_eq (mean t s i) 1) as (λ _. HoldsWide end memory c (expr_width e) (if mean t s i == 1 then mean e s i else mean d s i)) [
        | inl first_way ↦ subst (HoldsWide end memory c (expr_width e)) (sym (ap (λ z. cond z (mean e s i) (mean d s i)) (eq-eqb (mean t s i) 1 first_way)))
            (subst (λ w. HoldsWide end memory c w (mean e s i)) p.width (way.0 (subst (Holds last memory bit) first_way x2)))
        | inr other_way ↦ (let zero : mean t s i ≡ 0 = omega (arith, small, other_way) in subst (HoldsWide end memory c (expr_width e)) (sym (ap (λ z. cond z (mean e s i) (mean d s i)) (ne_eqb (mean t s i) 1 other_way)))
            (subst (λ w. HoldsWide end memory c w (mean d s i)) p.width (way.1 (subst (Holds last memory bit) zero x2))))
      ]
