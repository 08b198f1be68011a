-- Numbers that are extensions of their own low bits, and the fields that show them.
use Rattle.std.proofs.Common.{◌≡◌, ℕ, ◌+◌, ◌-◌, ◌*◌, ◌%◌, ◌^◌, ◌<◌, ◌≤◌, ◌==◌, ◌&&◌, nat_lt, Bool, true, false, true≢false, cond, Some, None, refl, sym, ap, subst, ◌∙◌, arith}
use Rattle.std.specs.Prelude.{IfOk, Result, is_some}
use Rattle.std.proofs.lemmas.Result.{IfOk-weaker}
use Rattle.std.proofs.lemmas.Bool.{eqb-true, eq-eqb, ltb-true, lt-ltb}
use Rattle.std.proofs.lemmas.Nat.{pow_pos, mod_below}
use Rattle.std.proofs.Math.Nat.{mod-eq_of_lt}
use Rattle.std.proofs.Math.Pow.{pow_mono}
use Rattle.rec_bits.specs.Operators.{sext_of, is_negative_of}
use Rattle.rec_bits.proofs.Booleans.{same_truth}
use Rattle.rec_bits.proofs.Options.{some_given}
use Rattle.rec_bits.proofs.Bits.{double_half}
use Rattle.net_model.specs.Exprs.{ExprModel, word, slice, zext, sext, expr_width}
use Rattle.form_model.specs.Shapes.{field_setting, is_field, plain_setting}
use Rattle.form_model.proofs.PlainLaws.{sext_plain}
use Rattle.tree_grammar.specs.Inner.Settings.{extension_setting, is_word}

-- ---- extensions

pub extension_of_none : (v to : ℕ) → (v == 0) ≡ (sext_of (v % 2 ^ 0) 0 to == v)
extension_of_none v to =
    let z : v % 2 ^ 0 ≡ 0 = omega arith in
    same_truth (v == 0) (0 == v) (λ e. eq-eqb 0 v (sym (eqb-true v 0 e))) (λ e. eq-eqb v 0 (sym (eqb-true 0 v e)))
    ∙ ap (λ x. sext_of x 0 to == v) (sym z)

-- nothing is added where the width doesn't grow
short_same : (x from to : ℕ) → to < from → sext_of x from to ≡ x
short_same x from to lt = by (is_negative_of from x)
  where
    by : (b : Bool) → cond b (x + (2 ^ to - 2 ^ from)) x ≡ x
    by true = (let le : 2 ^ to ≤ 2 ^ from = pow_mono (omega (arith, lt)) in omega (arith, le))
    by false = refl

low_same : (v from : ℕ) → (v % 2 ^ from == v) ≡ nat_lt v (2 ^ from)
low_same v from =
    same_truth (v % 2 ^ from == v) (nat_lt v (2 ^ from))
    (λ e. lt-ltb v (2 ^ from) (subst (λ n. n < 2 ^ from) (eqb-true (v % 2 ^ from) v e) (mod_below v (2 ^ from) (pow_pos from))))
    (λ e. eq-eqb (v % 2 ^ from) v (mod-eq_of_lt (ltb-true v (2 ^ from) e)))

pub extension_short : (v from to : ℕ) → to < from → nat_lt v (2 ^ from) ≡ (sext_of (v % 2 ^ from) from to == v)
extension_short v from to lt = sym (ap (λ n. n == v) (short_same (v % 2 ^ from) from to lt) ∙ low_same v from)

-- an extension past 64 bits with a top bit of 1 is past all numbers of 64
far : (from to : ℕ) → 1 ≤ from → from ≤ to → 64 < to → 2 ^ 64 ≤ 2 ^ (from - 1) + (2 ^ to - 2 ^ from)
far from to one le wide =
    let f : 2 ^ from ≡ 2 ^ (from - 1) + 2 ^ (from - 1) = double_half from one in
    let t : 2 ^ to ≡ 2 ^ (to - 1) + 2 ^ (to - 1) = double_half to (omega (arith, wide)) in
    let up : 64 ≤ to - 1 = omega (arith, wide) in
    let m : 2 ^ 64 ≤ 2 ^ (to - 1) = pow_mono up in
    let l : 2 ^ (from - 1) ≤ 2 ^ (to - 1) = pow_mono (omega (arith, le)) in
    omega (arith, f, t, m, l)

wide_never : (v from to : ℕ) → v < 2 ^ 64 → 1 ≤ from → from ≤ to → 64 < to → 2 ^ (from - 1) ≤ v → sext_of (v % 2 ^ from) from to ≡ v → ⊥
wide_never v from to small one le wide top = by (is_negative_of from (v % 2 ^ from)) refl
  where
    by : (b : Bool) → is_negative_of from (v % 2 ^ from) ≡ b → cond b (v % 2 ^ from + (2 ^ to - 2 ^ from)) (v % 2 ^ from) ≡ v → ⊥
    by true e q = (let h : 2 ^ (from - 1) ≤ v % 2 ^ from = grind (arith, e) in let m = far from to one le wide in omega (arith, h, m, q, small))
    by false e q = (let h : v % 2 ^ from < 2 ^ (from - 1) = grind (arith, e) in omega (arith, h, q, top))

pub extension_wide : (v from to : ℕ) → v < 2 ^ 64 → 1 ≤ from → from ≤ to → 64 < to → nat_lt v (2 ^ (from - 1)) ≡ (sext_of (v % 2 ^ from) from to == v)
extension_wide v from to small one le wide = by (nat_lt v (2 ^ (from - 1))) refl
  where
    by : (b : Bool) → nat_lt v (2 ^ (from - 1)) ≡ b → b ≡ (sext_of (v % 2 ^ from) from to == v)
    by true e =
        let lt : v < 2 ^ (from - 1) = ltb-true v (2 ^ (from - 1)) e in
        let m : 2 ^ (from - 1) ≤ 2 ^ from = pow_mono (omega arith) in
        let low : v % 2 ^ from ≡ v = mod-eq_of_lt (omega (arith, lt, m)) in
        sym (eq-eqb _ _ (ap (λ x. sext_of x from to) low ∙ sext_plain v from to lt))
    by false e =
        let top : 2 ^ (from - 1) ≤ v = grind (arith, e) in
        same_truth false (sext_of (v % 2 ^ from) from to == v) (λ x. absurd (true≢false (sym x)))
        (λ x. absurd (wide_never v from to small one le wide top (eqb-true _ _ x)))

-- ---- fields

slice_shows : (a : ExprModel) (hi lo v : ℕ) → (is_word a && nat_lt v (2 ^ (hi + 1 - lo))) ≡ is_some (field_setting (slice a hi lo) v)
slice_shows (word w) hi lo v = sym (some_given (nat_lt v (2 ^ (hi + 1 - lo))) (v * 2 ^ lo))
slice_shows _ hi lo v = refl

word_shows : (w v : ℕ) → nat_lt v (2 ^ w) ≡ is_some (field_setting (word w) v)
word_shows w v = sym (some_given (nat_lt v (2 ^ w)) v)

-- ---- the bits of the word for a value that a field shows

-- what shows a value is a field, as wide as the value
shown_field : (a : ExprModel) (v : ℕ) → is_some (field_setting a v) ≡ true → (is_field a ≡ true) × (v < 2 ^ expr_width a)
shown_field (word w) v h = (refl, ltb-true v (2 ^ w) (word_shows w v ∙ h))
shown_field (slice (word w) hi lo) v h = (refl, ltb-true v (2 ^ (hi + 1 - lo)) (slice_shows (word w) hi lo v ∙ h))
shown_field (slice _ hi lo) v h = absurd (true≢false (sym h))
shown_field _ v h = absurd (true≢false (sym h))

low_setting : (a : ExprModel) (v b : ℕ) → is_some (field_setting a v) ≡ true → field_setting a (v % 2 ^ expr_width a) ≡ Some b → field_setting a v ≡ Some b
low_setting a v b h e = subst (λ x. field_setting a x ≡ Some b) (mod-eq_of_lt (shown_field a v h).1) e

pub extended_field : (a : ExprModel) (w v : ℕ) → is_some (extension_setting a w v) ≡ true → is_field a ≡ true
extended_field a w v = by (sext_of (v % 2 ^ expr_width a) (expr_width a) w == v)
  where
    by : (t : Bool) → is_some (cond t (field_setting a (v % 2 ^ expr_width a)) None) ≡ true → is_field a ≡ true
    by true h = (shown_field a (v % 2 ^ expr_width a) h).0
    by false h = absurd (true≢false (sym h))

extended_setting : (a : ExprModel) (w v b : ℕ) → is_some (extension_setting a w v) ≡ true → field_setting a (v % 2 ^ expr_width a) ≡ Some b → extension_setting a w v ≡ Some b
extended_setting a w v b = by (sext_of (v % 2 ^ expr_width a) (expr_width a) w == v)
  where
    by : (t : Bool) → is_some (cond t (field_setting a (v % 2 ^ expr_width a)) None) ≡ true → field_setting a (v % 2 ^ expr_width a) ≡ Some b → cond t (field_setting a (v % 2 ^ expr_width a)) None ≡ Some b
    by true h e = e
    by false h e = absurd (true≢false (sym h))

-- the bits of a field's low value are those of the shape that shows the value
shape_of_field : {E : Type 0} (r : Result ℕ E) (t : ExprModel) (v : ℕ) → is_some (field_setting t v) ≡ true → IfOk r (λ b. field_setting t (v % 2 ^ expr_width t) ≡ Some b) → IfOk r (λ b. field_setting t v ≡ Some b)
shape_of_field r t v h = IfOk-weaker r _ _ (λ b e. low_setting t v b h e)

pub shape_of_zext : {E : Type 0} (r : Result ℕ E) (t a b : ExprModel) (w v : ℕ) → t ≡ zext a w → b ≡ a → is_some (plain_setting t v) ≡ true → IfOk r (λ n. field_setting b (v % 2 ^ expr_width b) ≡ Some n) → IfOk r (λ n. plain_setting t v ≡ Some n)
shape_of_zext r t a b w v e same h =
    rw e (IfOk-weaker r _ _ (λ n q. low_setting a v n (subst (λ x. is_some (plain_setting x v) ≡ true) e h) (subst (λ x. field_setting x (v % 2 ^ expr_width x) ≡ Some n) same q)))

pub shape_of_sext : {E : Type 0} (r : Result ℕ E) (t a b : ExprModel) (w v : ℕ) → t ≡ sext a w → b ≡ a → is_some (plain_setting t v) ≡ true → IfOk r (λ n. field_setting b (v % 2 ^ expr_width b) ≡ Some n) → IfOk r (λ n. plain_setting t v ≡ Some n)
shape_of_sext r t a b w v e same h =
    rw e (IfOk-weaker r _ _ (λ n q. extended_setting a w v n (subst (λ x. is_some (plain_setting x v) ≡ true) e h) (subst (λ x. field_setting x (v % 2 ^ expr_width x) ≡ Some n) same q)))

pub shape_of_word : {E : Type 0} (r : Result ℕ E) (t : ExprModel) (w v : ℕ) → t ≡ word w → is_some (plain_setting t v) ≡ true → IfOk r (λ n. field_setting t (v % 2 ^ expr_width t) ≡ Some n) → IfOk r (λ n. plain_setting t v ≡ Some n)
shape_of_word r t w v e h q =
    subst (λ x. IfOk r (λ n. plain_setting x v ≡ Some n)) (sym e)
    (shape_of_field r (word w) v (subst (λ x. is_some (plain_setting x v) ≡ true) e h) (subst (λ x. IfOk r (λ n. field_setting x (v % 2 ^ expr_width x) ≡ Some n)) e q))

pub shape_of_slice : {E : Type 0} (r : Result ℕ E) (t a : ExprModel) (hi lo v : ℕ) → t ≡ slice a hi lo → is_some (plain_setting t v) ≡ true → IfOk r (λ n. field_setting t (v % 2 ^ expr_width t) ≡ Some n) → IfOk r (λ n. plain_setting t v ≡ Some n)
shape_of_slice r t a hi lo v e h q =
    subst (λ x. IfOk r (λ n. plain_setting x v ≡ Some n)) (sym e)
    (shape_of_field r (slice a hi lo) v (subst (λ x. is_some (plain_setting x v) ≡ true) e h) (subst (λ x. IfOk r (λ n. field_setting x (v % 2 ^ expr_width x) ≡ Some n)) e q))
