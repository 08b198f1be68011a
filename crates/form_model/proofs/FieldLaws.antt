-- Which values a field has, and under which words.
use Rattle.std.proofs.Common.{lit<, ◌≡◌, ℕ, ◌+◌, ◌-◌, ◌*◌, ◌^◌, ◌<◌, ◌≤◌, nat_lt, Bool, true, false, true≢false, Some, refl, sym, subst, arith}
use Rattle.std.specs.Prelude.{is_some}
use Rattle.std.proofs.lemmas.Nat.{pow_pos, mod_below, shl_below}
use Rattle.std.proofs.Math.Nat.{pow-le-pow_right}
use Rattle.std.proofs.lemmas.Bool.{ltb-true, lt-ltb}
use Rattle.net_model.specs.Exprs.{ExprModel, word, reg, const, read, un, bin, slice, cat, zext, sext, select, expr_width}
use Rattle.net_model.specs.Symbolic.{no_state}
use Rattle.net_model.specs.Meaning.{mean}
use Rattle.form_model.specs.Shapes.{FieldFits, field_setting, then_some, is_field}

-- ---- a number where a test holds

pub then_some_true : (b : Bool) (n m : ℕ) → then_some b n ≡ Some m → (b ≡ true) × (n ≡ m)
then_some_true true n m e = (refl, cc)
then_some_true false n m e = absurd (cc)

pub then_some_is : (b : Bool) (n : ℕ) → b ≡ true → is_some (then_some b n) ≡ true
then_some_is true n e = refl
then_some_is false n e = absurd (true≢false (sym e))

-- ---- a field

slice_fits : (bits hi lo v : ℕ) → lo ≤ hi → hi < bits → v < 2 ^ (hi + 1 - lo) → v * 2 ^ lo < 2 ^ bits
slice_fits bits hi lo v p q h =
    let room : 2 ^ ((hi + 1 - lo) + lo) ≤ 2 ^ bits = pow-le-pow_right (lit< tt) (omega (arith, p, q)) in
    let low : v * 2 ^ lo < 2 ^ ((hi + 1 - lo) + lo) = shl_below v (hi + 1 - lo) lo h in
    omega (arith, room, low)

-- the bits that give a field a value are bits of a word
pub field_setting_fits : (bits : ℕ) (t : ExprModel) → FieldFits bits t → (v b : ℕ) → field_setting t v ≡ Some b → b < 2 ^ bits
field_setting_fits bits (word w) f v b e =
    let g = then_some_true (nat_lt v (2 ^ w)) v b e in
    subst (λ n. n < 2 ^ bits) g.1 (subst (λ k. v < 2 ^ k) f (ltb-true v (2 ^ w) g.0))
field_setting_fits bits (slice (word w) hi lo) f v b e =
    let g = then_some_true (nat_lt v (2 ^ (hi + 1 - lo))) (v * 2 ^ lo) b e in
    let lt : v < 2 ^ (hi + 1 - lo) = ltb-true v (2 ^ (hi + 1 - lo)) g.0 in
    subst (λ n. n < 2 ^ bits) g.1 (slice_fits bits hi lo v f.1 (subst (λ k. hi < k) f.0 f.2) lt)
field_setting_fits bits e f v b h = absurd (cc)

-- each word gives a field a value of its width
pub field_small : (bits : ℕ) (t : ExprModel) → is_field t ≡ true → FieldFits bits t → (i : ℕ) → i < 2 ^ bits → mean t no_state i < 2 ^ expr_width t
field_small bits (word w) p f i lt = subst (λ k. i < 2 ^ k) (sym f) lt
field_small bits (slice (word w) hi lo) p f i lt = mod_below _ _ (pow_pos (hi + 1 - lo))
field_small bits (reg r w) p f i lt = absurd (true≢false (sym p))
field_small bits (const w c) p f i lt = absurd (true≢false (sym p))
field_small bits (read space a w) p f i lt = absurd (true≢false (sym p))
field_small bits (un o a) p f i lt = absurd (true≢false (sym p))
field_small bits (bin o a c) p f i lt = absurd (true≢false (sym p))
field_small bits (slice _ hi lo) p f i lt = absurd (true≢false (sym p))
field_small bits (cat a c) p f i lt = absurd (true≢false (sym p))
field_small bits (zext a w) p f i lt = absurd (true≢false (sym p))
field_small bits (sext a w) p f i lt = absurd (true≢false (sym p))
field_small bits (select a c d) p f i lt = absurd (true≢false (sym p))

-- and has each of these under some word
pub field_has_setting : (bits : ℕ) (t : ExprModel) → is_field t ≡ true → FieldFits bits t → (v : ℕ) → v < 2 ^ expr_width t → is_some (field_setting t v) ≡ true
field_has_setting bits (word w) p f v lt = then_some_is (nat_lt v (2 ^ w)) v (lt-ltb v (2 ^ w) lt)
field_has_setting bits (slice (word w) hi lo) p f v lt = then_some_is (nat_lt v (2 ^ (hi + 1 - lo))) (v * 2 ^ lo) (lt-ltb v (2 ^ (hi + 1 - lo)) lt)
field_has_setting bits (reg r w) p f v lt = absurd (true≢false (sym p))
field_has_setting bits (const w c) p f v lt = absurd (true≢false (sym p))
field_has_setting bits (read space a w) p f v lt = absurd (true≢false (sym p))
field_has_setting bits (un o a) p f v lt = absurd (true≢false (sym p))
field_has_setting bits (bin o a c) p f v lt = absurd (true≢false (sym p))
field_has_setting bits (slice _ hi lo) p f v lt = absurd (true≢false (sym p))
field_has_setting bits (cat a c) p f v lt = absurd (true≢false (sym p))
field_has_setting bits (zext a w) p f v lt = absurd (true≢false (sym p))
field_has_setting bits (sext a w) p f v lt = absurd (true≢false (sym p))
field_has_setting bits (select a c d) p f v lt = absurd (true≢false (sym p))
