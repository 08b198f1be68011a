-- Which numbers a field shape shows.
use Rattle.std.proofs.Common.{◌≡◌, ℕ, ◌+◌, ◌-◌, ◌*◌, ◌%◌, ◌^◌, ◌<◌, ◌==◌, nat_lt, Bool, true, false, true≢false, cond, Option, Some, None, refl, sym, ap, ◌∙◌, arith}
use Rattle.std.specs.Prelude.{is_some}
use Rattle.std.proofs.lemmas.Bool.{lt-ltb}
use Rattle.std.proofs.lemmas.Nat.{mod_below, pow_pos}
use Rattle.rec_bits.specs.Operators.{sext_of}
use Rattle.rec_bits.proofs.Options.{some_given}
use Rattle.net_model.specs.Exprs.{ExprModel, word, reg, const, read, un, bin, slice, cat, zext, sext, select, expr_width}
use Rattle.form_model.specs.Shapes.{field_setting, is_field, is_plain, plain_setting, shows, shows_below}
use Rattle.form_model.proofs.ShapeLaws.{below_is}

pub field_shows : (a : ExprModel) → is_field a ≡ true → (v : ℕ) → is_some (field_setting a v) ≡ nat_lt v (2 ^ expr_width a)
field_shows (word w) h v = some_given (nat_lt v (2 ^ w)) v
field_shows (slice (word w) hi lo) h v = some_given (nat_lt v (2 ^ (hi + 1 - lo))) (v * 2 ^ lo)
field_shows (reg r w) h v = absurd (true≢false (sym h))
field_shows (const w c) h v = absurd (true≢false (sym h))
field_shows (read space a w) h v = absurd (true≢false (sym h))
field_shows (un o a) h v = absurd (true≢false (sym h))
field_shows (bin o a c) h v = absurd (true≢false (sym h))
field_shows (slice _ hi lo) h v = absurd (true≢false (sym h))
field_shows (cat a c) h v = absurd (true≢false (sym h))
field_shows (zext a w) h v = absurd (true≢false (sym h))
field_shows (sext a w) h v = absurd (true≢false (sym h))
field_shows (select a c d) h v = absurd (true≢false (sym h))

some_cond : (b : Bool) (o : Option ℕ) → is_some (cond b o None) ≡ cond b (is_some o) false
some_cond true o = refl
some_cond false o = refl

-- which numbers a shape shows that is no sum
pub const_shows : (t : ExprModel) (w c v : ℕ) → t ≡ const w c → (v == c) ≡ is_some (plain_setting t v)
const_shows t w c v e = sym (some_given (v == c) 0) ∙ ap (λ z. is_some (plain_setting z v)) (sym e)

pub zext_shows : (t a : ExprModel) (w v : ℕ) → t ≡ zext a w → is_plain t ≡ true → nat_lt v (2 ^ expr_width a) ≡ is_some (plain_setting t v)
zext_shows t a w v e h = sym (field_shows a (ap is_plain (sym e) ∙ h) v) ∙ ap (λ z. is_some (plain_setting z v)) (sym e)

pub sext_shows : (t a : ExprModel) (w v : ℕ) → t ≡ sext a w → is_plain t ≡ true → (sext_of (v % 2 ^ expr_width a) (expr_width a) w == v) ≡ is_some (plain_setting t v)
sext_shows t a w v e h =
    by (sext_of (v % 2 ^ expr_width a) (expr_width a) w == v)
    ∙ sym (some_cond (sext_of (v % 2 ^ expr_width a) (expr_width a) w == v) (field_setting a (v % 2 ^ expr_width a))) ∙ ap (λ z. is_some (plain_setting z v)) (sym e)
  where
    low : is_some (field_setting a (v % 2 ^ expr_width a)) ≡ true
    low = field_shows a (ap is_plain (sym e) ∙ h) (v % 2 ^ expr_width a) ∙ lt-ltb (v % 2 ^ expr_width a) (2 ^ expr_width a) (mod_below v (2 ^ expr_width a) (pow_pos (expr_width a)))

    by : (b : Bool) → b ≡ cond b (is_some (field_setting a (v % 2 ^ expr_width a))) false
    by true = sym low
    by false = refl

-- a shape that doesn't show one of the numbers doesn't show each
pub one_missing : (t : ExprModel) (n v u : ℕ) → v < n → u ≡ v → shows t u ≡ false → false ≡ shows_below t n
one_missing t n v u lt e h = by (shows_below t n) refl
  where
    by : (b : Bool) → shows_below t n ≡ b → false ≡ b
    by true s = absurd (true≢false (sym ((below_is t n).0 s u (omega (arith, lt, e))) ∙ h))
    by false s = refl
