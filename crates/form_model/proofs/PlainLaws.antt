-- Which numbers fields have that are extended, and constants, and up to where they have them all.
use Rattle.std.proofs.Common.{lit<, ◌≡◌, ℕ, ◌+◌, ◌-◌, ◌*◌, ◌%◌, ◌^◌, ◌<◌, ◌≤◌, ◌==◌, Bool, true, false, true≢false, cond, Option, Some, None, refl, sym, ap, subst, ◌∙◌, arith}
use Rattle.std.specs.Prelude.{is_some}
use Rattle.std.proofs.lemmas.Bool.{eqb-true, eq-eqb}
use Rattle.std.proofs.lemmas.Nat.{pow_pos, pow-add, mod_low, pow_below}
use Rattle.std.proofs.Math.Nat.{pow-le-pow_right, mod-eq_of_lt}
use Rattle.rec_bits.specs.Operators.{sext_of, is_negative_of}
use Rattle.rec_bits.proofs.Options.{picked}
use Rattle.net_model.specs.Exprs.{ExprModel, word, reg, const, read, un, bin, slice, cat, zext, sext, select, expr_width}
use Rattle.net_model.specs.Symbolic.{no_state}
use Rattle.net_model.specs.Meaning.{mean}
use Rattle.form_model.specs.Shapes.{FieldFits, IsReach, PlainFits, field_setting, is_field, is_plain, plain_reach, plain_setting}
use Rattle.form_model.proofs.FieldLaws.{field_setting_fits, field_has_setting, field_small, then_some_is, then_some_true}
use Rattle.form_model.proofs.SettingLaws.{field_means}

-- ---- numbers

-- the low bits of an extended number are the number
pub sext_low : (x n w : ℕ) → x < 2 ^ n → n ≤ w → sext_of x n w % 2 ^ n ≡ x
sext_low x n w h le = by (is_negative_of n x)
  where
    room : 2 ^ (w - n) * 2 ^ n ≡ 2 ^ w
    room = sym (pow-add 2 (w - n) n) ∙ ap (λ k. 2 ^ k) (omega (arith, le))

    more : x + (2 ^ w - 2 ^ n) ≡ (2 ^ (w - n) - 1) * 2 ^ n + x
    more = (let pos : 0 < 2 ^ (w - n) = pow_pos (w - n) in let e : 2 ^ (w - n) - 1 + 1 ≡ 2 ^ (w - n) = omega (arith, pos) in
        let q : (2 ^ (w - n) - 1 + 1) * 2 ^ n ≡ 2 ^ w = ap (λ k. k * 2 ^ n) e ∙ room in
        let r : (2 ^ (w - n) - 1) * 2 ^ n + 2 ^ n ≡ 2 ^ w = grind (arith, q) in omega (arith, r))

    by : (b : Bool) → cond b (x + (2 ^ w - 2 ^ n)) x % 2 ^ n ≡ x
    by true = ap (λ k. k % 2 ^ n) more ∙ mod_low (2 ^ (w - n) - 1) n x h
    by false = mod-eq_of_lt h

-- a number whose top bit is 0 stays as it is
pub sext_plain : (x n w : ℕ) → x < 2 ^ (n - 1) → sext_of x n w ≡ x
sext_plain x n w h = by (is_negative_of n x) refl
  where
    by : (b : Bool) → is_negative_of n x ≡ b → cond b (x + (2 ^ w - 2 ^ n)) x ≡ x
    by true e = absurd (let q : 2 ^ (n - 1) ≤ x = grind (arith, e) in omega (arith, h, q))
    by false e = refl

-- and no other comes to be the least of those whose top bit is 1
sext_other : (x n w : ℕ) → 1 ≤ n → n < w → x < 2 ^ n → sext_of x n w ≡ 2 ^ (n - 1) → ⊥
sext_other x n w one less h = by (is_negative_of n x) refl
  where
    by : (b : Bool) → is_negative_of n x ≡ b → cond b (x + (2 ^ w - 2 ^ n)) x ≡ 2 ^ (n - 1) → ⊥
    by true e q =
        let top : 2 ^ (n - 1) ≤ x = grind (arith, e) in
        let wide : 2 ^ n < 2 ^ w = pow_below n w less in
        omega (arith, q, top, wide)
    by false e q = (let no : 2 ^ (n - 1) ≤ x → ⊥ = (λ le. let t : is_negative_of n x ≡ true = grind (arith, le) in true≢false (sym t ∙ e)) in no (omega (arith, q)))

-- ---- what shows

-- the bits that give a shape a value are bits of a word
pub plain_setting_fits : (bits : ℕ) (t : ExprModel) → PlainFits bits t → (v b : ℕ) → plain_setting t v ≡ Some b → b < 2 ^ bits
plain_setting_fits bits (const w c) f v b e = subst (λ n. n < 2 ^ bits) (then_some_true (v == c) 0 b e).1 (pow_pos bits)
plain_setting_fits bits (zext a w) f v b e = field_setting_fits bits a f.0 v b e
plain_setting_fits bits (sext a w) f v b e =
    field_setting_fits bits a f.0 (v % 2 ^ expr_width a) b (picked (sext_of (v % 2 ^ expr_width a) (expr_width a) w == v) _ b e).1
plain_setting_fits bits (word w) f v b e = field_setting_fits bits (word w) f v b e
plain_setting_fits bits (slice a hi lo) f v b e = field_setting_fits bits (slice a hi lo) f v b e
plain_setting_fits bits t f v b e = absurd (cc)

pub some_of : (o : Option ℕ) → is_some o ≡ true → (b : ℕ) × (o ≡ Some b)
some_of None e = absurd (true≢false (sym e))
some_of (Some b) e = (b, refl)

sext_has_setting : (bits : ℕ) (a : ExprModel) (w : ℕ) → is_field a ≡ true → PlainFits bits (sext a w) → (i v : ℕ) → i < 2 ^ bits → mean (sext a w) no_state i ≡ v → is_some (plain_setting (sext a w) v) ≡ true
sext_has_setting bits a w p f i v lt e =
    let x = mean a no_state i in
    let small = field_small bits a p f.0 i lt in
    let low : v % 2 ^ expr_width a ≡ x = ap (λ n. n % 2 ^ expr_width a) (sym e) ∙ sext_low x (expr_width a) w small (omega (arith, f.2)) in
    let same : (sext_of (v % 2 ^ expr_width a) (expr_width a) w == v) ≡ true = eq-eqb _ _ (ap (λ n. sext_of n (expr_width a) w) low ∙ e) in
    subst (λ (t : Bool). is_some (cond t (field_setting a (v % 2 ^ expr_width a)) None) ≡ true) (sym same)
    (field_has_setting bits a p f.0 (v % 2 ^ expr_width a) (subst (λ n. n < 2 ^ expr_width a) (sym low) small))

-- and there is a setting for each value under some word
pub plain_has_setting : (bits : ℕ) (t : ExprModel) → is_plain t ≡ true → PlainFits bits t → (i v : ℕ) → i < 2 ^ bits → mean t no_state i ≡ v → is_some (plain_setting t v) ≡ true
plain_has_setting bits (const w c) p f i v lt e = then_some_is (v == c) 0 (eq-eqb v c (sym e))
plain_has_setting bits (zext a w) p f i v lt e = field_has_setting bits a p f.0 v (subst (λ n. n < 2 ^ expr_width a) e (field_small bits a p f.0 i lt))
plain_has_setting bits (sext a w) p f i v lt e = sext_has_setting bits a w p f i v lt e
plain_has_setting bits (word w) p f i v lt e = field_has_setting bits (word w) p f v (subst (λ n. n < 2 ^ w) e (field_small bits (word w) p f i lt))
plain_has_setting bits (slice a hi lo) p f i v lt e = field_has_setting bits (slice a hi lo) p f v (subst (λ n. n < 2 ^ (hi + 1 - lo)) e (field_small bits (slice a hi lo) p f i lt))
plain_has_setting bits (reg r w) p f i v lt e = absurd (true≢false (sym p))
plain_has_setting bits (read space a w) p f i v lt e = absurd (true≢false (sym p))
plain_has_setting bits (un o a) p f i v lt e = absurd (true≢false (sym p))
plain_has_setting bits (bin o a c) p f i v lt e = absurd (true≢false (sym p))
plain_has_setting bits (cat a c) p f i v lt e = absurd (true≢false (sym p))
plain_has_setting bits (select a c d) p f i v lt e = absurd (true≢false (sym p))

-- ---- up to where all numbers are shown

-- a field shows the numbers of its width, and no other
pub field_reach : (bits : ℕ) (t : ExprModel) → is_field t ≡ true → FieldFits bits t → IsReach bits t (2 ^ expr_width t)
field_reach bits t p f = record {
  below = λ v lt. (let s = some_of (field_setting t v) (field_has_setting bits t p f v lt) in record { word = s.0; fits = field_setting_fits bits t f v s.0 s.1; is = field_means t no_state v s.0 s.1 });
  unshown = λ h. (let small = field_small bits t p f h.word h.fits in let e = h.is in omega (arith, small, e));
}

const_reach : (bits w c : ℕ) (b : Bool) → (c == 0) ≡ b → IsReach bits (const w c) (cond b 1 0)
const_reach bits w c true e = (let z : c ≡ 0 = eqb-true c 0 e in record {
  below = λ v lt. record { word = 0; fits = pow_pos bits; is = omega (arith, z, lt) };
  unshown = λ h. (let q : c ≡ 1 = h.is in omega (arith, z, q));
})
const_reach bits w c false e = record {
  below = λ v lt. absurd (omega (arith, lt));
  unshown = λ h. (let q : c ≡ 0 = h.is in true≢false (sym (eq-eqb c 0 q) ∙ e));
}

pub sext_reach : (bits : ℕ) (a : ExprModel) (w : ℕ) → is_field a ≡ true → PlainFits bits (sext a w) → IsReach bits (sext a w) (2 ^ (expr_width a - 1))
sext_reach bits a w p f = record {
  below = λ v lt. (let r = field_reach bits a p f.0 in
      let wide : 2 ^ (expr_width a - 1) ≤ 2 ^ expr_width a = pow-le-pow_right (lit< tt) (omega arith) in
      let h = r.below v (omega (arith, wide, lt)) in
      record { word = h.word; fits = h.fits; is = ap (λ n. sext_of n (expr_width a) w) h.is ∙ sext_plain v (expr_width a) w lt });
  unshown = λ h. sext_other (mean a no_state h.word) (expr_width a) w f.1 f.2 (field_small bits a p f.0 h.word h.fits) h.is;
}

pub plain_reach_is : (bits : ℕ) (t : ExprModel) → is_plain t ≡ true → PlainFits bits t → IsReach bits t (plain_reach t)
plain_reach_is bits (const w c) p f = const_reach bits w c (c == 0) refl
plain_reach_is bits (zext a w) p f = (let r = field_reach bits a p f.0 in record {
  below = λ v lt. (let h = r.below v lt in record { word = h.word; fits = h.fits; is = h.is });
  unshown = λ h. r.unshown (record { word = h.word; fits = h.fits; is = h.is });
})
plain_reach_is bits (sext a w) p f = sext_reach bits a w p f
plain_reach_is bits (word w) p f = field_reach bits (word w) p f
plain_reach_is bits (slice a hi lo) p f = field_reach bits (slice a hi lo) p f
plain_reach_is bits (reg r w) p f = absurd (true≢false (sym p))
plain_reach_is bits (read space a w) p f = absurd (true≢false (sym p))
plain_reach_is bits (un o a) p f = absurd (true≢false (sym p))
plain_reach_is bits (bin o a c) p f = absurd (true≢false (sym p))
plain_reach_is bits (cat a c) p f = absurd (true≢false (sym p))
plain_reach_is bits (select a c d) p f = absurd (true≢false (sym p))
