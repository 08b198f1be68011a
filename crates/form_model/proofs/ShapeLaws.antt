-- Which numbers a shape shows, and up to where it shows them all.
use Rattle.std.proofs.Common.{◌≡◌, ◌↔◌, ℕ, zero, suc, ◌^◌, ◌<◌, ◌==◌, Bool, true, false, true≢false, Option, Some, None, refl, sym, ap, subst, ◌∙◌, arith}
use Rattle.std.specs.Prelude.{is_some}
use Rattle.std.proofs.lemmas.Bool.{eqb-true, and_from}
use Rattle.rec_bits.proofs.Booleans.{both}
use Rattle.net_model.specs.Exprs.{ExprModel, word, reg, const, read, un, bin, slice, cat, zext, sext, select}
use Rattle.net_model.specs.Symbolic.{no_state}
use Rattle.net_model.specs.Meaning.{mean}
use Rattle.form_model.specs.Shapes.{IsExactShape, IsReach, ShapeFits, Shows, Sum, is_plain_sum, is_shape, reach_of, shape_setting, shows, shows_below, sum_reach, sum_of, sum_setting}
use Rattle.form_model.proofs.SettingLaws.{setting_means}
use Rattle.form_model.proofs.PlainLaws.{plain_has_setting, plain_reach_is, plain_setting_fits, some_of}
use Rattle.form_model.proofs.SumLaws.{sum_has_setting, sum_setting_fits, sum_is, sum_reach_is}

-- the bits that give a shape a value are bits of a word
shape_setting_fits : (bits : ℕ) (t : ExprModel) → is_shape t ≡ true → ShapeFits bits t → (v b : ℕ) → shape_setting t v ≡ Some b → b < 2 ^ bits
shape_setting_fits bits (bin o a b) p f v x e = by (sum_of o a b) refl p e
  where
    by : (z : Option Sum) → sum_of o a b ≡ z → is_plain_sum z ≡ true → sum_setting z v ≡ Some x → x < 2 ^ bits
    by None q plain e = absurd (cc)
    by (Some s) q plain e = sum_setting_fits bits (bin o a b) s (sum_is bits o a b s q plain f) v x e
shape_setting_fits bits (const w c) p f v x e = plain_setting_fits bits (const w c) f v x e
shape_setting_fits bits (zext a w) p f v x e = plain_setting_fits bits (zext a w) f v x e
shape_setting_fits bits (sext a w) p f v x e = plain_setting_fits bits (sext a w) f v x e
shape_setting_fits bits (word w) p f v x e = plain_setting_fits bits (word w) f v x e
shape_setting_fits bits (slice a hi lo) p f v x e = plain_setting_fits bits (slice a hi lo) f v x e
shape_setting_fits bits t p f v x e = absurd (true≢false (sym p))

-- under the setting the shape has the value
pub setting_of_shape : (bits : ℕ) (t : ExprModel) → is_shape t ≡ true → ShapeFits bits t → (v b : ℕ) → shape_setting t v ≡ Some b → (b < 2 ^ bits) × (mean t no_state b ≡ v)
setting_of_shape bits t p f v b e = (shape_setting_fits bits t p f v b e, setting_means t no_state v b e)

-- and there is a setting for each value under some word
pub shape_has_setting : (bits : ℕ) (t : ExprModel) → is_shape t ≡ true → ShapeFits bits t → (i v : ℕ) → i < 2 ^ bits → mean t no_state i ≡ v → is_some (shape_setting t v) ≡ true
shape_has_setting bits (bin o a b) p f i v lt e = by (sum_of o a b) refl p
  where
    by : (z : Option Sum) → sum_of o a b ≡ z → is_plain_sum z ≡ true → is_some (sum_setting z v) ≡ true
    by None q plain = absurd (cc)
    by (Some s) q plain = sum_has_setting bits (bin o a b) s (sum_is bits o a b s q plain f) i v lt e
shape_has_setting bits (const w c) p f i v lt e = plain_has_setting bits (const w c) p f i v lt e
shape_has_setting bits (zext a w) p f i v lt e = plain_has_setting bits (zext a w) p f i v lt e
shape_has_setting bits (sext a w) p f i v lt e = plain_has_setting bits (sext a w) p f i v lt e
shape_has_setting bits (word w) p f i v lt e = plain_has_setting bits (word w) p f i v lt e
shape_has_setting bits (slice a hi lo) p f i v lt e = plain_has_setting bits (slice a hi lo) p f i v lt e
shape_has_setting bits (reg r w) p f i v lt e = plain_has_setting bits (reg r w) p f i v lt e
shape_has_setting bits (read space a w) p f i v lt e = plain_has_setting bits (read space a w) p f i v lt e
shape_has_setting bits (un o a) p f i v lt e = plain_has_setting bits (un o a) p f i v lt e
shape_has_setting bits (cat a c) p f i v lt e = plain_has_setting bits (cat a c) p f i v lt e
shape_has_setting bits (select a c d) p f i v lt e = plain_has_setting bits (select a c d) p f i v lt e

-- there is a setting exactly where the shape shows the value
pub shows_is : (bits : ℕ) (t : ExprModel) → is_shape t ≡ true → ShapeFits bits t → (v : ℕ) → (shows t v ≡ true) ↔ Shows bits t v
shows_is bits t p f v = (
  (λ e. let s = some_of (shape_setting t v) e in let g = setting_of_shape bits t p f v s.0 s.1 in record { word = s.0; fits = g.0; is = g.1 }),
  λ h. shape_has_setting bits t p f h.word v h.fits h.is,
)

-- and none exactly where it doesn't
pub unshown_is : (bits : ℕ) (t : ExprModel) → is_shape t ≡ true → ShapeFits bits t → (v : ℕ) → (shape_setting t v ≡ None) ↔ (Shows bits t v → ⊥)
unshown_is bits t p f v = (
  (λ e h. true≢false (sym (shape_has_setting bits t p f h.word v h.fits h.is) ∙ ap is_some e)),
  λ never. by (shape_setting t v) refl (λ e. never ((shows_is bits t p f v).0 e)),
)
  where
    by : (o : Option ℕ) → shape_setting t v ≡ o → (shows t v ≡ true → ⊥) → o ≡ None
    by None e never = refl
    by (Some b) e never = absurd (never (ap is_some e))

-- ---- up to where it shows all numbers

-- what holds below a number and at it
below_next : (t : ExprModel) (n v : ℕ) → shows t n ≡ true → (v < n → shows t v ≡ true) → v < suc n → shows t v ≡ true
below_next t n v here before lt = by (v == n) refl
  where
    by : (b : Bool) → (v == n) ≡ b → shows t v ≡ true
    by true q = subst (λ k. shows t k ≡ true) (sym (eqb-true v n q)) here
    by false q = before (grind (arith, q, lt))

pub below_is : (t : ExprModel) (n : ℕ) → (shows_below t n ≡ true) ↔ ((v : ℕ) → v < n → shows t v ≡ true)
below_is t zero = ((λ e v lt. absurd (omega (arith, lt))), λ h. refl)
below_is t (suc n) = (
  (λ e v lt. let s = both (shows t n) (shows_below t n) e in below_next t n v s.0 (λ q. (below_is t n).0 s.1 v q) lt),
  λ h. and_from (shows t n) (shows_below t n) (h n (omega arith)) ((below_is t n).1 (λ v lt. h v (omega (arith, lt)))),
)

pub reach_is : (bits : ℕ) (t : ExprModel) → is_shape t ≡ true → ShapeFits bits t → IsReach bits t (reach_of t)
reach_is bits (bin o a b) p f = by (sum_of o a b) refl p
  where
    by : (z : Option Sum) → sum_of o a b ≡ z → is_plain_sum z ≡ true → IsReach bits (bin o a b) (sum_reach z)
    by None q plain = absurd (cc)
    by (Some s) q plain = sum_reach_is bits (bin o a b) s (sum_is bits o a b s q plain f)
reach_is bits (const w c) p f = plain_reach_is bits (const w c) p f
reach_is bits (zext a w) p f = plain_reach_is bits (zext a w) p f
reach_is bits (sext a w) p f = plain_reach_is bits (sext a w) p f
reach_is bits (word w) p f = plain_reach_is bits (word w) p f
reach_is bits (slice a hi lo) p f = plain_reach_is bits (slice a hi lo) p f
reach_is bits (reg r w) p f = plain_reach_is bits (reg r w) p f
reach_is bits (read space a w) p f = plain_reach_is bits (read space a w) p f
reach_is bits (un o a) p f = plain_reach_is bits (un o a) p f
reach_is bits (cat a c) p f = plain_reach_is bits (cat a c) p f
reach_is bits (select a c d) p f = plain_reach_is bits (select a c d) p f

-- ---- all of it

below_shown : (bits : ℕ) (t : ExprModel) → is_shape t ≡ true → ShapeFits bits t → (n : ℕ) → (shows_below t n ≡ true) ↔ ((v : ℕ) → v < n → Shows bits t v)
below_shown bits t p f n = (
  (λ e v lt. (shows_is bits t p f v).0 ((below_is t n).0 e v lt)),
  λ h. (below_is t n).1 (λ v lt. (shows_is bits t p f v).1 (h v lt)),
)

pub exact_shape : (bits : ℕ) (t : ExprModel) → is_shape t ≡ true → ShapeFits bits t → IsExactShape bits t
exact_shape bits t p f = record { shown = shows_is bits t p f; setting = setting_of_shape bits t p f; below = below_shown bits t p f; reach = reach_is bits t p f }
