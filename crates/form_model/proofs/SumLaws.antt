-- Which numbers the sum of a constant and a plain shape has, and up to where it has them all.
use Rattle.std.proofs.Common.{◌≡◌, ◌⊎◌, inl, inr, ℕ, zero, ◌+◌, ◌-◌, ◌%◌, ◌^◌, ◌<◌, ◌≤◌, ◌==◌, nat_lt, Bool, true, false, true≢false, cond, Some, None, refl, sym, ap, subst, ◌∙◌, arith}
use Rattle.std.specs.Prelude.{is_some, nat_le}
use Rattle.std.proofs.lemmas.Bool.{eqb-true, eq-eqb, lt-ltb}
use Rattle.std.proofs.lemmas.Nat.{pow_pos, mod_below, pow_below}
use Rattle.std.proofs.Math.Nat.{add_comm}
use Rattle.rec_bits.specs.declared.operator.Op2.{Op2}
use Rattle.rec_bits.specs.declared.operator.Op2.TheVariants.{Add}
use Rattle.rec_bits.specs.Operators.{sext_of, is_negative_of}
use Rattle.rec_bits.proofs.Options.{picked}
use Rattle.rec_bits.proofs.Bits.{double_half}
use Rattle.net_model.specs.Exprs.{ExprModel, word, reg, const, read, un, bin, slice, cat, zext, sext, select, expr_width}
use Rattle.net_model.specs.Symbolic.{no_state}
use Rattle.net_model.specs.Meaning.{mean}
use Rattle.form_model.specs.Shapes.{FieldFits, IsReach, PlainFits, ShapeFits, Shows, Sum, SummandFits, is_field, is_plain, less_by, moved_reach, plain_setting, sum_reach, sum_of, sum_setting, summands}
use Rattle.form_model.proofs.FieldLaws.{field_small}
use Rattle.form_model.proofs.SumNumbers.{added_back, back_added, cases_le, less_around, less_back, sum_is_with}
use Rattle.form_model.proofs.PlainLaws.{plain_setting_fits, plain_has_setting, field_reach, sext_reach}

-- ---- the parts of a sum

sext_small : (x n w : ℕ) → x < 2 ^ n → n < w → sext_of x n w < 2 ^ w
sext_small x n w lt less = by (is_negative_of n x)
  where
    by : (b : Bool) → cond b (x + (2 ^ w - 2 ^ n)) x < 2 ^ w
    by true = (let wide = pow_below n w less in omega (arith, wide, lt))
    by false = (let wide = pow_below n w less in omega (arith, wide, lt))

pub plain_fits : (bits : ℕ) (t : ExprModel) → SummandFits bits t → PlainFits bits t
plain_fits bits (const w v) f = tt
plain_fits bits (word w) f = f
plain_fits bits (reg r w) f = f
plain_fits bits (read space a w) f = f
plain_fits bits (un o a) f = f
plain_fits bits (bin o a b) f = f
plain_fits bits (slice a hi lo) f = f
plain_fits bits (cat a b) f = f
plain_fits bits (zext a w) f = f
plain_fits bits (sext a w) f = f
plain_fits bits (select c a b) f = f

plain_small : (bits : ℕ) (t : ExprModel) → is_plain t ≡ true → SummandFits bits t → (i : ℕ) → i < 2 ^ bits → mean t no_state i < 2 ^ expr_width t
plain_small bits (const w c) p f i lt = f
plain_small bits (zext a w) p f i lt = (let small = field_small bits a p f.0 i lt in let wide = pow_below (expr_width a) w f.1 in omega (arith, small, wide))
plain_small bits (sext a w) p f i lt = sext_small (mean a no_state i) (expr_width a) w (field_small bits a p f.0 i lt) f.2
plain_small bits (word w) p f i lt = field_small bits (word w) p f i lt
plain_small bits (slice a hi lo) p f i lt = field_small bits (slice a hi lo) p f i lt
plain_small bits (reg r w) p f i lt = absurd (true≢false (sym p))
plain_small bits (read space a w) p f i lt = absurd (true≢false (sym p))
plain_small bits (un o a) p f i lt = absurd (true≢false (sym p))
plain_small bits (bin o a c) p f i lt = absurd (true≢false (sym p))
plain_small bits (cat a c) p f i lt = absurd (true≢false (sym p))
plain_small bits (select a c d) p f i lt = absurd (true≢false (sym p))

-- what a sum is of its constant and its other part
pub record IsSum (bits : ℕ) (t : ExprModel) (s : Sum) : Type 0 where
  pub plain : is_plain s.to ≡ true
  pub fits : SummandFits bits s.to
  pub width : expr_width s.to ≡ s.width
  pub small : s.added < 2 ^ s.width
  pub is : (i : ℕ) → mean t no_state i ≡ (s.added + mean s.to no_state i) % 2 ^ s.width

first_is : (bits w c : ℕ) (b : ExprModel) → is_plain b ≡ true → ShapeFits bits (bin Add (const w c) b) → IsSum bits (bin Add (const w c) b) (record { width = w; added = c; to = b })
first_is bits w c b p f = record { plain = p; fits = f.2; width = sym f.0; small = f.1; is = λ i. refl }

second_is : (bits : ℕ) (a : ExprModel) (w c : ℕ) → is_plain a ≡ true → ShapeFits bits (bin Add a (const w c)) → IsSum bits (bin Add a (const w c)) (record { width = w; added = c; to = a })
second_is bits a w c p f = record {
  plain = p;
  fits = f.1;
  width = f.0;
  small = f.2;
  is = λ i. ap (λ n. n % 2 ^ expr_width a) (add_comm (mean a no_state i) c) ∙ ap (λ k. (c + mean a no_state i) % 2 ^ k) f.0;
}

summands_are : (bits : ℕ) (a b : ExprModel) (s : Sum) → summands a b ≡ Some s → is_plain s.to ≡ true → ShapeFits bits (bin Add a b) → IsSum bits (bin Add a b) s
summands_are bits (const w c) b s e p f =
    let same : record { width = w; added = c; to = b } ≡ s = (sum_is_with w c b s e).is in
    subst (λ z. IsSum bits (bin Add (const w c) b) z) same (first_is bits w c b (subst (λ (z : Sum). is_plain z.to ≡ true) (sym same) p) f)
summands_are bits a (const w c) s e p f =
    let same : record { width = w; added = c; to = a } ≡ s = (sum_is_with w c a s e).is in
    subst (λ z. IsSum bits (bin Add a (const w c)) z) same (second_is bits a w c (subst (λ (z : Sum). is_plain z.to ≡ true) (sym same) p) f)
summands_are bits a b s e p f = absurd (cc)

pub sum_is : (bits : ℕ) (o : Op2) (a b : ExprModel) (s : Sum) → sum_of o a b ≡ Some s → is_plain s.to ≡ true → ShapeFits bits (bin o a b) → IsSum bits (bin o a b) s
sum_is bits Add a b s e p f = summands_are bits a b s e p f
sum_is bits _ a b s e p f = absurd (cc)

-- ---- what shows

pub sum_setting_fits : (bits : ℕ) (t : ExprModel) (s : Sum) → IsSum bits t s → (v x : ℕ) → sum_setting (Some s) v ≡ Some x → x < 2 ^ bits
sum_setting_fits bits t s sum v x e =
    plain_setting_fits bits s.to (plain_fits bits s.to sum.fits) (less_by s.width v s.added) x (picked (nat_lt v (2 ^ s.width)) _ x e).1

-- where the sum has a value, its other part has the value less by the constant
pub part_shows : (bits : ℕ) (t : ExprModel) (s : Sum) → IsSum bits t s → (i v : ℕ) → i < 2 ^ bits → mean t no_state i ≡ v → (v < 2 ^ s.width) × (mean s.to no_state i ≡ less_by s.width v s.added)
part_shows bits t s sum i v lt e =
    let at : (s.added + mean s.to no_state i) % 2 ^ s.width ≡ v = sym (sum.is i) ∙ e in
    let low : (s.added + mean s.to no_state i) % 2 ^ s.width < 2 ^ s.width = mod_below _ _ (pow_pos s.width) in
    let small : mean s.to no_state i < 2 ^ s.width = subst (λ k. mean s.to no_state i < 2 ^ k) sum.width (plain_small bits s.to sum.plain sum.fits i lt) in
    (subst (λ n. n < 2 ^ s.width) at low, sym (back_added s.width (mean s.to no_state i) s.added sum.small small) ∙ ap (λ n. less_by s.width n s.added) at)

pub sum_has_setting : (bits : ℕ) (t : ExprModel) (s : Sum) → IsSum bits t s → (i v : ℕ) → i < 2 ^ bits → mean t no_state i ≡ v → is_some (sum_setting (Some s) v) ≡ true
sum_has_setting bits t s sum i v lt e =
    let p = part_shows bits t s sum i v lt e in
    subst (λ below. is_some (cond below (plain_setting s.to (less_by s.width v s.added)) None) ≡ true) (sym (lt-ltb v (2 ^ s.width) p.0))
    (plain_has_setting bits s.to sum.plain (plain_fits bits s.to sum.fits) i (less_by s.width v s.added) lt p.1)

-- ---- up to where all numbers are shown

-- the numbers below this one are shown, and this one isn't
record HasBound (bits width added : ℕ) (to : ExprModel) (reach : ℕ) : Type 0 where
  below : (v : ℕ) → v < reach → (v < 2 ^ width) × Shows bits to (less_by width v added)
  unshown : reach < 2 ^ width → Shows bits to (less_by width reach added) → ⊥

sum_reaches : (bits : ℕ) (t : ExprModel) (s : Sum) (reach : ℕ) → IsSum bits t s → HasBound bits s.width s.added s.to reach → IsReach bits t reach
sum_reaches bits t s reach sum r = record {
  below = λ v lt. (let (small, shown) = r.below v lt in
      record { word = shown.word; fits = shown.fits; is = sum.is shown.word ∙ (ap (λ n. (s.added + n) % 2 ^ s.width) shown.is ∙ added_back s.width v s.added sum.small small) });
  unshown = λ h. (let p = part_shows bits t s sum h.word reach h.fits h.is in r.unshown p.0 (record { word = h.word; fits = h.fits; is = p.1 }));
}

field_reaches : (bits c : ℕ) (t : ExprModel) → is_field t ≡ true → FieldFits bits t → HasBound bits (expr_width t) c t (2 ^ expr_width t)
field_reaches bits c t p f = record {
  below = λ v lt. (lt, (field_reach bits t p f).below (less_by (expr_width t) v c) (mod_below _ _ (pow_pos (expr_width t))));
  unshown = λ lt h. absurd (omega (arith, lt));
}

const_reaches : (bits w d c : ℕ) → d < 2 ^ w → c < 2 ^ w → (t : Bool) → ((c + d) % 2 ^ w == 0) ≡ t → HasBound bits w c (const w d) (cond t 1 0)
const_reaches bits w d c lt small true e =
    let zero : (c + d) % 2 ^ w ≡ 0 = eqb-true _ _ e in
    let back : less_by w 0 c ≡ d = ap (λ n. less_by w n c) (sym zero) ∙ back_added w d c small lt in
    record {
      below = λ v less. (let none : 0 ≡ v = omega (arith, less) in
          (subst (λ n. n < 2 ^ w) none (pow_pos w), record { word = 0; fits = pow_pos bits; is = sym back ∙ ap (λ n. less_by w n c) none }));
      unshown = λ less h. (let one : 0 ≡ 1 = sym zero ∙ (ap (λ n. (c + n) % 2 ^ w) h.is ∙ added_back w 1 c small less) in cc);
    }
const_reaches bits w d c lt small false e = record {
  below = λ v less. absurd (omega (arith, less));
  unshown = λ less h. (let zero : (c + d) % 2 ^ w ≡ 0 = ap (λ n. (c + n) % 2 ^ w) h.is ∙ added_back w 0 c small less in true≢false (sym (eq-eqb _ _ zero) ∙ e));
}

zext_shows : (bits : ℕ) (a : ExprModel) (w y : ℕ) → is_field a ≡ true → FieldFits bits a → y < 2 ^ expr_width a → Shows bits (zext a w) y
zext_shows bits a w y p f lt = (let h = (field_reach bits a p f).below y lt in record { word = h.word; fits = h.fits; is = h.is })

zext_below : (bits : ℕ) (a : ExprModel) (w y : ℕ) → is_field a ≡ true → FieldFits bits a → Shows bits (zext a w) y → y < 2 ^ expr_width a
zext_below bits a w y p f h = subst (λ n. n < 2 ^ expr_width a) h.is (field_small bits a p f h.word h.fits)

zext_reaches : (bits : ℕ) (a : ExprModel) (w c : ℕ) → is_field a ≡ true → PlainFits bits (zext a w) → c < 2 ^ w → (t : Bool) → (c == 0) ≡ t → HasBound bits w c (zext a w) (cond t (2 ^ expr_width a) (2 ^ expr_width a + c - 2 ^ w))
zext_reaches bits a w c p f small true e =
    let none : c ≡ 0 = eqb-true c 0 e in
    let wide : 2 ^ expr_width a < 2 ^ w = pow_below (expr_width a) w f.1 in
    record {
      below = λ v lt. (let less : v < 2 ^ w = omega (arith, lt, wide) in
          let at : less_by w v c ≡ v = less_back w v c (omega (arith, none)) less ∙ omega (arith, none) in
          (less, zext_shows bits a w (less_by w v c) p f.0 (subst (λ n. n < 2 ^ expr_width a) (sym at) lt)));
      unshown = λ less h. (let at : less_by w (2 ^ expr_width a) c ≡ 2 ^ expr_width a = less_back w (2 ^ expr_width a) c (omega (arith, none)) less ∙ omega (arith, none) in
          let below = zext_below bits a w (less_by w (2 ^ expr_width a) c) p f.0 h in absurd (omega (arith, at, below)));
    }
zext_reaches bits a w c p f small false e =
    let some : 0 < c = grind (arith, e) in
    let wide : 2 ^ expr_width a < 2 ^ w = pow_below (expr_width a) w f.1 in
    record {
      below = λ v lt. (let less : v < c = omega (arith, lt, wide) in
          let at : less_by w v c ≡ v + 2 ^ w - c = less_around w v c less small in
          (omega (arith, less, small), zext_shows bits a w (less_by w v c) p f.0 (omega (arith, at, lt, small))));
      unshown = λ less h. (let reach = 2 ^ expr_width a + c - 2 ^ w in
          let under : 2 ^ expr_width a + c - 2 ^ w < c = omega (arith, some, wide) in
          let at : less_by w (2 ^ expr_width a + c - 2 ^ w) c ≡ 2 ^ expr_width a + c - 2 ^ w + 2 ^ w - c = less_around w (2 ^ expr_width a + c - 2 ^ w) c under small in
          let below = zext_below bits a w (less_by w (2 ^ expr_width a + c - 2 ^ w) c) p f.0 h in absurd (omega (arith, at, below, small)));
    }

sext_high : (bits : ℕ) (a : ExprModel) (w y : ℕ) → is_field a ≡ true → PlainFits bits (sext a w) → 2 ^ w ≤ y + 2 ^ (expr_width a - 1) → y < 2 ^ w → Shows bits (sext a w) y
sext_high bits a w y p f high lt = shown
  where
    wide : 2 ^ expr_width a < 2 ^ w
    wide = pow_below (expr_width a) w f.2

    half : 2 ^ (expr_width a - 1) + 2 ^ (expr_width a - 1) ≡ 2 ^ expr_width a
    half = sym (double_half (expr_width a) f.1)

    low : ℕ
    low = y - (2 ^ w - 2 ^ expr_width a)

    extended : sext_of low (expr_width a) w ≡ y
    extended = by (is_negative_of (expr_width a) low) refl
      where
        by : (t : Bool) → is_negative_of (expr_width a) low ≡ t → cond t (low + (2 ^ w - 2 ^ expr_width a)) low ≡ y
        by true e = omega (arith, wide, half, high, lt)
        by false e = absurd (let less : low < 2 ^ (expr_width a - 1) = grind (arith, e) in omega (arith, less, wide, half, high, lt))

    shown : Shows bits (sext a w) y
    shown = (let h = (field_reach bits a p f.0).below low (omega (arith, wide, half, high, lt)) in
        record { word = h.word; fits = h.fits; is = ap (λ n. sext_of n (expr_width a) w) h.is ∙ extended })

sext_parts : (bits : ℕ) (a : ExprModel) (w y : ℕ) → is_field a ≡ true → PlainFits bits (sext a w) → Shows bits (sext a w) y → (y < 2 ^ (expr_width a - 1)) ⊎ (2 ^ w ≤ y + 2 ^ (expr_width a - 1))
sext_parts bits a w y p f h = by (is_negative_of (expr_width a) x) refl h.is
  where
    x : ℕ
    x = mean a no_state h.word

    by : (t : Bool) → is_negative_of (expr_width a) x ≡ t → cond t (x + (2 ^ w - 2 ^ expr_width a)) x ≡ y → (y < 2 ^ (expr_width a - 1)) ⊎ (2 ^ w ≤ y + 2 ^ (expr_width a - 1))
    by true e q =
        let top : 2 ^ (expr_width a - 1) ≤ x = grind (arith, e) in
        let wide = pow_below (expr_width a) w f.2 in
        let half = sym (double_half (expr_width a) f.1) in
        inr (omega (arith, q, top, wide, half))
    by false e q = (let low : x < 2 ^ (expr_width a - 1) = grind (arith, e) in inl (omega (arith, q, low)))

-- what isn't in either part
unshown_between : (bits : ℕ) (a : ExprModel) (w y : ℕ) → is_field a ≡ true → PlainFits bits (sext a w) → 2 ^ (expr_width a - 1) ≤ y → y + 2 ^ (expr_width a - 1) < 2 ^ w → Shows bits (sext a w) y → ⊥
unshown_between bits a w y p f low high h = by (sext_parts bits a w y p f h)
  where
    by : (y < 2 ^ (expr_width a - 1)) ⊎ (2 ^ w ≤ y + 2 ^ (expr_width a - 1)) → ⊥
    by (inl less) = omega (arith, less, low)
    by (inr le) = omega (arith, le, high)

sext_reaches : (bits : ℕ) (a : ExprModel) (w c : ℕ) → is_field a ≡ true → PlainFits bits (sext a w) → c < 2 ^ w → (t : Bool) → nat_le c (2 ^ (expr_width a - 1)) ≡ t → HasBound bits w c (sext a w) (cond t (2 ^ (expr_width a - 1) + c) (2 ^ (expr_width a - 1) + c - 2 ^ w))
sext_reaches bits a w c p f small true e =
    let under : c ≤ 2 ^ (expr_width a - 1) = grind (arith, e) in
    let wide = pow_below (expr_width a) w f.2 in
    let half = sym (double_half (expr_width a) f.1) in
    record {
      below = λ v lt. (let less : v < 2 ^ w = omega (arith, lt, under, wide, half) in (less, near v lt less (cases_le c v)));
      unshown = λ less h. (let at : less_by w (2 ^ (expr_width a - 1) + c) c ≡ 2 ^ (expr_width a - 1) = less_back w (2 ^ (expr_width a - 1) + c) c (omega arith) less ∙ omega arith in
          unshown_between bits a w (less_by w (2 ^ (expr_width a - 1) + c) c) p f (omega (arith, at)) (omega (arith, at, wide, half)) h);
    }
  where
    near : (v : ℕ) → v < 2 ^ (expr_width a - 1) + c → v < 2 ^ w → (c ≤ v) ⊎ (v < c) → Shows bits (sext a w) (less_by w v c)
    near v lt less (inl le) = (let at = less_back w v c le less in (sext_reach bits a w p f).below (less_by w v c) (omega (arith, at, lt, le)))
    near v lt less (inr before) =
        let at = less_around w v c before small in
        let under : c ≤ 2 ^ (expr_width a - 1) = grind (arith, e) in
        sext_high bits a w (less_by w v c) p f (omega (arith, at, under, small)) (omega (arith, at, before, small))
sext_reaches bits a w c p f small false e =
    let over : 2 ^ (expr_width a - 1) < c = grind (arith, e) in
    let wide = pow_below (expr_width a) w f.2 in
    let half = sym (double_half (expr_width a) f.1) in
    record {
      below = λ v lt. (let less : v < c = omega (arith, lt, wide, half) in
          let at = less_around w v c less small in
          (omega (arith, less, small), (sext_reach bits a w p f).below (less_by w v c) (omega (arith, at, lt, small))));
      unshown = λ less h. (let before : 2 ^ (expr_width a - 1) + c - 2 ^ w < c = omega (arith, over, wide, half) in
          let at = less_around w (2 ^ (expr_width a - 1) + c - 2 ^ w) c before small in
          unshown_between bits a w (less_by w (2 ^ (expr_width a - 1) + c - 2 ^ w) c) p f
          (omega (arith, at, over, wide, half, small)) (omega (arith, at, over, wide, half, small)) h);
    }

part_reaches : (bits c : ℕ) (t : ExprModel) → is_plain t ≡ true → SummandFits bits t → c < 2 ^ expr_width t → HasBound bits (expr_width t) c t (moved_reach c t)
part_reaches bits c (const w d) p f lt = const_reaches bits w d c f lt ((c + d) % 2 ^ w == 0) refl
part_reaches bits c (zext a w) p f lt = zext_reaches bits a w c p f lt (c == 0) refl
part_reaches bits c (sext a w) p f lt = sext_reaches bits a w c p f lt (nat_le c (2 ^ (expr_width a - 1))) refl
part_reaches bits c (word w) p f lt = field_reaches bits c (word w) p f
part_reaches bits c (slice a hi lo) p f lt = field_reaches bits c (slice a hi lo) p f
part_reaches bits c (reg r w) p f lt = absurd (true≢false (sym p))
part_reaches bits c (read space a w) p f lt = absurd (true≢false (sym p))
part_reaches bits c (un o a) p f lt = absurd (true≢false (sym p))
part_reaches bits c (bin o a b) p f lt = absurd (true≢false (sym p))
part_reaches bits c (cat a b) p f lt = absurd (true≢false (sym p))
part_reaches bits c (select d a b) p f lt = absurd (true≢false (sym p))

pub sum_reach_is : (bits : ℕ) (t : ExprModel) (s : Sum) → IsSum bits t s → IsReach bits t (sum_reach (Some s))
sum_reach_is bits t s sum =
    sum_reaches bits t s (moved_reach s.added s.to) sum
    (subst (λ k. HasBound bits k s.added s.to (moved_reach s.added s.to)) sum.width
    (part_reaches bits s.added s.to sum.plain sum.fits (subst (λ k. s.added < 2 ^ k) (sym sum.width) sum.small)))
