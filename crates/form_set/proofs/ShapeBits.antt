-- The bits of a field shape: a setting has no others, and each word with these bits gives the shape
-- its value.
use Rattle.std.proofs.Common.{◌≡◌, ℕ, ◌+◌, ◌-◌, ◌*◌, ◌/◌, ◌%◌, ◌^◌, ◌<◌, ◌≤◌, ◌==◌, ◌&&◌, nat_le, nat_lt, Bool, true, false, true≢false, cond, Option, Some, None, refl, sym, ap, subst, ◌∙◌, arith}
use Rattle.std.specs.Prelude.{bit_and, bit_or}
use Rattle.std.specs.Int.Bits.{or_zero_l, or_zero_r}
use Rattle.std.proofs.lemmas.Nat.{and_mask, shl-shr}
use Rattle.std.proofs.lemmas.Nat.Bits.{and_high}
use Rattle.std.proofs.Math.Nat.{mod-eq_of_lt}
use Rattle.std.proofs.lemmas.Bool.{ltb-true}
use Rattle.rec_bits.specs.declared.operator.Op2.{Op2}
use Rattle.rec_bits.specs.declared.operator.Op2.TheVariants.{Add}
use Rattle.rec_bits.specs.Operators.{apply2_of, sext_of}
use Rattle.rec_bits.proofs.Bits.{and_zero_r}
use Rattle.net_model.specs.declared.hardware.Netlist.{Netlist}
use Rattle.net_model.specs.declared.states.State.{State}
use Rattle.net_model.specs.Fields.{WordFitsExpr, bits_between, fields}
use Rattle.net_model.specs.Meaning.{mean}
use Rattle.net_model.specs.Nets.{word_width}
use Rattle.net_model.specs.Symbolic.{no_state}
use Rattle.net_model.specs.Exprs.{ExprModel, word, reg, const, read, un, bin, slice, cat, zext, sext, select, expr_width}
use Rattle.net_model.proofs.TermLaws.{mean_fields}
use Rattle.sym_expr.specs.Pools.{ExprFits}
use Rattle.sym_expr.proofs.Fits.{width_fits}
use Rattle.transfer_set.specs.TextMarks.{IsExprOf}
use Rattle.form_model.specs.Shapes.{FieldFits, PlainFits, ShapeFits, Sum, SummandFits, field_setting, is_field, is_plain, is_plain_sum, is_shape, less_by, plain_setting, shape_setting, sum_of, sum_setting, sum_with, summands}
use Rattle.form_model.proofs.SumNumbers.{sum_is_with}
use Rattle.form_model.proofs.SumLaws.{IsSum, sum_is, plain_fits}
use Rattle.form_model.proofs.FieldLaws.{field_small, then_some_true}
use Rattle.form_model.proofs.PlainLaws.{sext_low}
use Rattle.form_model.proofs.ShapeLaws.{setting_of_shape}

-- the bits of a slice, in their places
slice_bits : (n hi lo : ℕ) → lo ≤ hi → bit_and n (bits_between hi lo) ≡ (n / 2 ^ lo % 2 ^ (hi + 1 - lo)) * 2 ^ lo
slice_bits n hi lo h =
    let e : hi + 1 - lo + lo ≡ hi + 1 = omega (arith, h) in
    ap (λ k. bit_and n (2 ^ k - 2 ^ lo)) (sym e) ∙ and_high n (hi + 1 - lo) lo

-- ---- the setting of a shape

field_only : (bits : ℕ) (t : ExprModel) → is_field t ≡ true → FieldFits bits t → (v b : ℕ) → field_setting t v ≡ Some b → bit_and b (fields t) ≡ b
field_only bits (word w) i f v b e =
    (let g = then_some_true _ v b e in subst (λ n. bit_and n (2 ^ w - 1) ≡ n) g.1 (and_mask v w ∙ mod-eq_of_lt (ltb-true v (2 ^ w) g.0)))
field_only bits (slice (word w) hi lo) i f v b e =
    (let g = then_some_true _ (v * 2 ^ lo) b e in
    subst (λ n. bit_and n (bits_between hi lo) ≡ n) g.1
    (slice_bits (v * 2 ^ lo) hi lo f.1 ∙ ap (λ n. (n % 2 ^ (hi + 1 - lo)) * 2 ^ lo) (shl-shr v lo) ∙ ap (λ n. n * 2 ^ lo) (mod-eq_of_lt (ltb-true v (2 ^ (hi + 1 - lo)) g.0))))
field_only bits (reg r w) i f v b e = absurd (true≢false (sym i))
field_only bits (const w c) i f v b e = absurd (true≢false (sym i))
field_only bits (read space a w) i f v b e = absurd (true≢false (sym i))
field_only bits (un o a) i f v b e = absurd (true≢false (sym i))
field_only bits (bin o a c) i f v b e = absurd (true≢false (sym i))
field_only bits (slice _ hi lo) i f v b e = absurd (true≢false (sym i))
field_only bits (cat a c) i f v b e = absurd (true≢false (sym i))
field_only bits (zext a w) i f v b e = absurd (true≢false (sym i))
field_only bits (sext a w) i f v b e = absurd (true≢false (sym i))
field_only bits (select a c d) i f v b e = absurd (true≢false (sym i))

-- the parts of a sum are a constant and what is plain
plain_with : (w c : ℕ) (t : ExprModel) → is_plain_sum (sum_with w c t) ≡ true → is_plain t ≡ true
plain_with w c t = by (nat_le w 64 && (nat_lt c (2 ^ w) && (expr_width t == w)))
  where
    by : (b : Bool) → is_plain_sum (cond b (Some (record { width = w; added = c; to = t })) None) ≡ true → is_plain t ≡ true
    by true h = h
    by false h = absurd (true≢false (sym h))

summands_plain : (a b : ExprModel) → is_plain_sum (summands a b) ≡ true → (is_plain a ≡ true) × (is_plain b ≡ true)
summands_plain (const w c) b h = (refl, plain_with w c b h)
summands_plain a (const w c) h = (plain_with w c a h, refl)
summands_plain a b h = absurd (true≢false (sym h))

pub both_plain : (o : Op2) (a b : ExprModel) → is_plain_sum (sum_of o a b) ≡ true → (is_plain a ≡ true) × (is_plain b ≡ true)
both_plain Add a b h = summands_plain a b h
both_plain o a b h = absurd (true≢false (sym h))

-- and the constant has no bits
summands_fields : (a b : ExprModel) (s : Sum) → summands a b ≡ Some s → bit_or (fields a) (fields b) ≡ fields s.to
summands_fields (const w c) b s e = or_zero_l (fields b) ∙ ap (λ (z : Sum). fields z.to) (sum_is_with w c b s e).is
summands_fields a (const w c) s e = or_zero_r (fields a) ∙ ap (λ (z : Sum). fields z.to) (sum_is_with w c a s e).is
summands_fields a b s e = absurd (cc)

sum_fields : (o : Op2) (a b : ExprModel) (s : Sum) → sum_of o a b ≡ Some s → fields (bin o a b) ≡ fields s.to
sum_fields Add a b s e = summands_fields a b s e
sum_fields o a b s e = absurd (cc)

-- the bits that are told are bits of the shape
plain_only : (bits : ℕ) (t : ExprModel) → is_plain t ≡ true → PlainFits bits t → (v b : ℕ) → plain_setting t v ≡ Some b → bit_and b (fields t) ≡ b
plain_only bits (const w c) i f v b e = (let g = then_some_true (v == c) 0 b e in subst (λ n. bit_and n 0 ≡ n) g.1 refl)
plain_only bits (zext a w) i f v b e = field_only bits a i f.0 v b e
plain_only bits (sext a w) i f v b e = by (sext_of (v % 2 ^ expr_width a) (expr_width a) w == v) e
  where
    by : (t : Bool) → cond t (field_setting a (v % 2 ^ expr_width a)) None ≡ Some b → bit_and b (fields a) ≡ b
    by true q = field_only bits a i f.0 (v % 2 ^ expr_width a) b q
    by false q = absurd (cc)
plain_only bits (word w) i f v b e = field_only bits (word w) i f v b e
plain_only bits (slice a hi lo) i f v b e = field_only bits (slice a hi lo) i f v b e
plain_only bits (reg r w) i f v b e = absurd (true≢false (sym i))
plain_only bits (read space a w) i f v b e = absurd (true≢false (sym i))
plain_only bits (un o a) i f v b e = absurd (true≢false (sym i))
plain_only bits (bin o a c) i f v b e = absurd (true≢false (sym i))
plain_only bits (cat a c) i f v b e = absurd (true≢false (sym i))
plain_only bits (select a c d) i f v b e = absurd (true≢false (sym i))

sum_only : (bits : ℕ) (o : Op2) (a c : ExprModel) (s : Sum) → IsSum bits (bin o a c) s → sum_of o a c ≡ Some s → (v b : ℕ) → sum_setting (Some s) v ≡ Some b → bit_and b (fields (bin o a c)) ≡ b
sum_only bits o a c s sum e v b told = ap (bit_and b) (sum_fields o a c s e) ∙ by (nat_lt v (2 ^ s.width)) told
  where
    by : (t : Bool) → cond t (plain_setting s.to (less_by s.width v s.added)) None ≡ Some b → bit_and b (fields s.to) ≡ b
    by true q = plain_only bits s.to sum.plain (plain_fits bits s.to sum.fits) (less_by s.width v s.added) b q
    by false q = absurd (cc)

pub shape_only : (bits : ℕ) (t : ExprModel) → is_shape t ≡ true → ShapeFits bits t → (v b : ℕ) → shape_setting t v ≡ Some b → bit_and b (fields t) ≡ b
shape_only bits (bin o a c) i f v b e = by (sum_of o a c) refl i e
  where
    by : (z : Option Sum) → sum_of o a c ≡ z → is_plain_sum z ≡ true → sum_setting z v ≡ Some b → bit_and b (fields (bin o a c)) ≡ b
    by None q plain e = absurd (cc)
    by (Some s) q plain e = sum_only bits o a c s (sum_is bits o a c s q plain f) q v b e
shape_only bits (const w c) i f v b e = plain_only bits (const w c) i f v b e
shape_only bits (zext a w) i f v b e = plain_only bits (zext a w) i f v b e
shape_only bits (sext a w) i f v b e = plain_only bits (sext a w) i f v b e
shape_only bits (word w) i f v b e = plain_only bits (word w) i f v b e
shape_only bits (slice a hi lo) i f v b e = plain_only bits (slice a hi lo) i f v b e
shape_only bits (reg r w) i f v b e = absurd (true≢false (sym i))
shape_only bits (read space a w) i f v b e = absurd (true≢false (sym i))
shape_only bits (un o a) i f v b e = absurd (true≢false (sym i))
shape_only bits (cat a c) i f v b e = absurd (true≢false (sym i))
shape_only bits (select a c d) i f v b e = absurd (true≢false (sym i))

-- a field shape reads no state
field_blank : (t : ExprModel) → is_field t ≡ true → (s : State) (i : ℕ) → mean t s i ≡ mean t no_state i
field_blank (word w) h s i = refl
field_blank (slice (word w) hi lo) h s i = refl
field_blank (reg r w) h s i = absurd (true≢false (sym h))
field_blank (const w c) h s i = refl
field_blank (read space a w) h s i = absurd (true≢false (sym h))
field_blank (un o a) h s i = absurd (true≢false (sym h))
field_blank (bin o a c) h s i = absurd (true≢false (sym h))
field_blank (slice _ hi lo) h s i = absurd (true≢false (sym h))
field_blank (cat a c) h s i = absurd (true≢false (sym h))
field_blank (zext a w) h s i = absurd (true≢false (sym h))
field_blank (sext a w) h s i = absurd (true≢false (sym h))
field_blank (select a c d) h s i = absurd (true≢false (sym h))

plain_blank : (t : ExprModel) → is_plain t ≡ true → (s : State) (i : ℕ) → mean t s i ≡ mean t no_state i
plain_blank (const w c) h s i = refl
plain_blank (zext a w) h s i = field_blank a h s i
plain_blank (sext a w) h s i = ap (λ n. sext_of n (expr_width a) w) (field_blank a h s i)
plain_blank (word w) h s i = refl
plain_blank (slice a hi lo) h s i = field_blank (slice a hi lo) h s i
plain_blank (reg r w) h s i = absurd (true≢false (sym h))
plain_blank (read space a w) h s i = absurd (true≢false (sym h))
plain_blank (un o a) h s i = absurd (true≢false (sym h))
plain_blank (bin o a c) h s i = absurd (true≢false (sym h))
plain_blank (cat a c) h s i = absurd (true≢false (sym h))
plain_blank (select a c d) h s i = absurd (true≢false (sym h))

pub shape_blank : (t : ExprModel) → is_shape t ≡ true → (s : State) (i : ℕ) → mean t s i ≡ mean t no_state i
shape_blank (bin o a c) h s i = (let p = both_plain o a c h in (λ j. apply2_of o (expr_width a) (plain_blank a p.0 s i j) (plain_blank c p.1 s i j)))
shape_blank (const w c) h s i = plain_blank (const w c) h s i
shape_blank (zext a w) h s i = plain_blank (zext a w) h s i
shape_blank (sext a w) h s i = plain_blank (sext a w) h s i
shape_blank (word w) h s i = plain_blank (word w) h s i
shape_blank (slice a hi lo) h s i = plain_blank (slice a hi lo) h s i
shape_blank (reg r w) h s i = absurd (true≢false (sym h))
shape_blank (read space a w) h s i = absurd (true≢false (sym h))
shape_blank (un o a) h s i = absurd (true≢false (sym h))
shape_blank (cat a c) h s i = absurd (true≢false (sym h))
shape_blank (select a c d) h s i = absurd (true≢false (sym h))

-- ---- words of a shape's width

field_word : (bits : ℕ) (t : ExprModel) → is_field t ≡ true → FieldFits bits t → (i : ℕ) → i < 2 ^ bits → WordFitsExpr t i
field_word bits (word w) h f i lt = subst (λ n. i < 2 ^ n) (sym f) lt
field_word bits (slice (word w) hi lo) h f i lt = subst (λ n. i < 2 ^ n) (sym f.0) lt
field_word bits (slice _ hi lo) h f i lt = absurd (true≢false (sym h))
field_word bits (reg r w) h f i lt = tt
field_word bits (const w c) h f i lt = tt
field_word bits (read space a w) h f i lt = absurd (true≢false (sym h))
field_word bits (un o a) h f i lt = absurd (true≢false (sym h))
field_word bits (bin o a c) h f i lt = absurd (true≢false (sym h))
field_word bits (cat a c) h f i lt = absurd (true≢false (sym h))
field_word bits (zext a w) h f i lt = absurd (true≢false (sym h))
field_word bits (sext a w) h f i lt = absurd (true≢false (sym h))
field_word bits (select a c d) h f i lt = absurd (true≢false (sym h))

plain_word : (bits : ℕ) (t : ExprModel) → is_plain t ≡ true → PlainFits bits t → (i : ℕ) → i < 2 ^ bits → WordFitsExpr t i
plain_word bits (const w c) h f i lt = tt
plain_word bits (zext a w) h f i lt = field_word bits a h f.0 i lt
plain_word bits (sext a w) h f i lt = field_word bits a h f.0 i lt
plain_word bits (word w) h f i lt = field_word bits (word w) h f i lt
plain_word bits (slice a hi lo) h f i lt = field_word bits (slice a hi lo) h f i lt
plain_word bits (reg r w) h f i lt = tt
plain_word bits (read space a w) h f i lt = absurd (true≢false (sym h))
plain_word bits (un o a) h f i lt = absurd (true≢false (sym h))
plain_word bits (bin o a c) h f i lt = absurd (true≢false (sym h))
plain_word bits (cat a c) h f i lt = absurd (true≢false (sym h))
plain_word bits (select a c d) h f i lt = absurd (true≢false (sym h))

shape_word : (bits : ℕ) (t : ExprModel) → is_shape t ≡ true → ShapeFits bits t → (i : ℕ) → i < 2 ^ bits → WordFitsExpr t i
shape_word bits (bin o a c) h f i lt = (let p = both_plain o a c h in (plain_word bits a p.0 (plain_fits bits a f.1) i lt, plain_word bits c p.1 (plain_fits bits c f.2) i lt))
shape_word bits (const w c) h f i lt = plain_word bits (const w c) h f i lt
shape_word bits (zext a w) h f i lt = plain_word bits (zext a w) h f i lt
shape_word bits (sext a w) h f i lt = plain_word bits (sext a w) h f i lt
shape_word bits (word w) h f i lt = plain_word bits (word w) h f i lt
shape_word bits (slice a hi lo) h f i lt = plain_word bits (slice a hi lo) h f i lt
shape_word bits (reg r w) h f i lt = absurd (true≢false (sym h))
shape_word bits (read space a w) h f i lt = absurd (true≢false (sym h))
shape_word bits (un o a) h f i lt = absurd (true≢false (sym h))
shape_word bits (cat a c) h f i lt = absurd (true≢false (sym h))
shape_word bits (select a c d) h f i lt = absurd (true≢false (sym h))

-- and each word with these bits gives the shape the value
pub shape_set : (bits : ℕ) (t : ExprModel) → is_shape t ≡ true → ShapeFits bits t → (v b : ℕ) → shape_setting t v ≡ Some b
    → (s : State) (i : ℕ) → i < 2 ^ bits → bit_and i (fields t) ≡ b → mean t s i ≡ v
shape_set bits t h f v b e s i lt is =
    let g = setting_of_shape bits t h f v b e in
    mean_fields t s i b (shape_word bits t h f i lt) (shape_word bits t h f b g.0) (is ∙ sym (shape_only bits t h f v b e)) ∙ shape_blank t h s b ∙ g.1

-- ---- a shape without a sum has its value under no other bits

field_meant : (bits : ℕ) (t : ExprModel) → is_field t ≡ true → FieldFits bits t → (v b : ℕ) → field_setting t v ≡ Some b → (i : ℕ) → mean t no_state i ≡ v → bit_and i (fields t) ≡ b
field_meant bits (word w) h f v b e i is =
    (let g = then_some_true _ v b e in
    ap (λ n. bit_and n (2 ^ w - 1)) is ∙ and_mask v w ∙ mod-eq_of_lt (ltb-true v (2 ^ w) g.0) ∙ g.1)
field_meant bits (slice (word w) hi lo) h f v b e i is =
    (let g = then_some_true _ (v * 2 ^ lo) b e in slice_bits i hi lo f.1 ∙ ap (λ n. n * 2 ^ lo) is ∙ g.1)
field_meant bits (slice _ hi lo) h f v b e i is = absurd (true≢false (sym h))
field_meant bits (reg r w) h f v b e i is = absurd (true≢false (sym h))
field_meant bits (const w c) h f v b e i is = absurd (true≢false (sym h))
field_meant bits (read space a w) h f v b e i is = absurd (true≢false (sym h))
field_meant bits (un o a) h f v b e i is = absurd (true≢false (sym h))
field_meant bits (bin o a c) h f v b e i is = absurd (true≢false (sym h))
field_meant bits (cat a c) h f v b e i is = absurd (true≢false (sym h))
field_meant bits (zext a w) h f v b e i is = absurd (true≢false (sym h))
field_meant bits (sext a w) h f v b e i is = absurd (true≢false (sym h))
field_meant bits (select a c d) h f v b e i is = absurd (true≢false (sym h))

pub plain_meant : (bits : ℕ) (t : ExprModel) → is_plain t ≡ true → ShapeFits bits t → (v b : ℕ) → plain_setting t v ≡ Some b → (i : ℕ) → i < 2 ^ bits → mean t no_state i ≡ v → bit_and i (fields t) ≡ b
plain_meant bits (const w c) h f v b e i lt is = (let g = then_some_true (v == c) 0 b e in and_zero_r i ∙ g.1)
plain_meant bits (zext a w) h f v b e i lt is = field_meant bits a h f.0 v b e i is
plain_meant bits (sext a w) h f v b e i lt is = by (sext_of (v % 2 ^ expr_width a) (expr_width a) w == v) e
  where
    wide : expr_width a ≤ w
    wide = let less = f.2 in omega (arith, less)

    low : mean a no_state i ≡ v % 2 ^ expr_width a
    low = sym (sext_low (mean a no_state i) (expr_width a) w (field_small bits a h f.0 i lt) wide) ∙ ap (λ n. n % 2 ^ expr_width a) is

    by : (t : Bool) → cond t (field_setting a (v % 2 ^ expr_width a)) None ≡ Some b → bit_and i (fields a) ≡ b
    by true q = field_meant bits a h f.0 (v % 2 ^ expr_width a) b q i low
    by false q = absurd (cc)
plain_meant bits (word w) h f v b e i lt is = field_meant bits (word w) h f v b e i is
plain_meant bits (slice a hi lo) h f v b e i lt is = field_meant bits (slice a hi lo) h f v b e i is
plain_meant bits (reg r w) h f v b e i lt is = absurd (true≢false (sym h))
plain_meant bits (read space a w) h f v b e i lt is = absurd (true≢false (sym h))
plain_meant bits (un o a) h f v b e i lt is = absurd (true≢false (sym h))
plain_meant bits (bin o a c) h f v b e i lt is = absurd (true≢false (sym h))
plain_meant bits (cat a c) h f v b e i lt is = absurd (true≢false (sym h))
plain_meant bits (select a c d) h f v b e i lt is = absurd (true≢false (sym h))

-- what has such bits is a shape without a sum, and is told as any shape is
field_of_setting : (t : ExprModel) (v b : ℕ) → field_setting t v ≡ Some b → is_field t ≡ true
field_of_setting (word w) v b e = refl
field_of_setting (slice (word w) hi lo) v b e = refl
field_of_setting _ v b e = absurd (cc)

pub plain_of_setting : (t : ExprModel) (v b : ℕ) → plain_setting t v ≡ Some b → is_plain t ≡ true
plain_of_setting (const w c) v b e = refl
plain_of_setting (zext a w) v b e = field_of_setting a v b e
plain_of_setting (sext a w) v b e = by (sext_of (v % 2 ^ expr_width a) (expr_width a) w == v) e
  where
    by : (t : Bool) → cond t (field_setting a (v % 2 ^ expr_width a)) None ≡ Some b → is_field a ≡ true
    by true q = field_of_setting a (v % 2 ^ expr_width a) b q
    by false q = absurd (cc)
plain_of_setting (word w) v b e = refl
plain_of_setting (slice a hi lo) v b e = field_of_setting (slice a hi lo) v b e
plain_of_setting (reg r w) v b e = absurd (cc)
plain_of_setting (read space a w) v b e = absurd (cc)
plain_of_setting (un o a) v b e = absurd (cc)
plain_of_setting (bin o a c) v b e = absurd (cc)
plain_of_setting (cat a c) v b e = absurd (cc)
plain_of_setting (select a c d) v b e = absurd (cc)

pub plain_told : (t : ExprModel) → is_plain t ≡ true → (v : ℕ) → shape_setting t v ≡ plain_setting t v
plain_told (const w c) h v = refl
plain_told (zext a w) h v = refl
plain_told (sext a w) h v = refl
plain_told (word w) h v = refl
plain_told (slice a hi lo) h v = refl
plain_told (reg r w) h v = refl
plain_told (read space a w) h v = refl
plain_told (un o a) h v = refl
plain_told (bin o a c) h v = absurd (true≢false (sym h))
plain_told (cat a c) h v = refl
plain_told (select a c d) h v = refl

-- ---- a shape of a netlist's expressions fits

field_fits : (netlist : Netlist) (t : ExprModel) → IsExprOf netlist t → ExprFits t → FieldFits (word_width netlist) t
field_fits netlist (word w) k f = k
field_fits netlist (slice (word w) hi lo) k f = (k.0, f.1.0, f.1.1)
field_fits netlist (reg r w) k f = tt
field_fits netlist (const w c) k f = tt
field_fits netlist (read space a w) k f = tt
field_fits netlist (un o a) k f = tt
field_fits netlist (bin o a c) k f = tt
field_fits netlist (slice _ hi lo) k f = tt
field_fits netlist (cat a c) k f = tt
field_fits netlist (zext a w) k f = tt
field_fits netlist (sext a w) k f = tt
field_fits netlist (select a c d) k f = tt

summand_fits : (netlist : Netlist) (t : ExprModel) → is_plain t ≡ true → IsExprOf netlist t → ExprFits t → SummandFits (word_width netlist) t
summand_fits netlist (const w c) h k f = f.2
summand_fits netlist (zext a w) h k f = (field_fits netlist a k.0 f.0, f.1.0)
summand_fits netlist (sext a w) h k f = (field_fits netlist a k.0 f.0, (width_fits a f.0).0, f.1.0)
summand_fits netlist (word w) h k f = field_fits netlist (word w) k f
summand_fits netlist (slice a hi lo) h k f = field_fits netlist (slice a hi lo) k f
summand_fits netlist (reg r w) h k f = absurd (true≢false (sym h))
summand_fits netlist (read space a w) h k f = absurd (true≢false (sym h))
summand_fits netlist (un o a) h k f = absurd (true≢false (sym h))
summand_fits netlist (bin o a c) h k f = absurd (true≢false (sym h))
summand_fits netlist (cat a c) h k f = absurd (true≢false (sym h))
summand_fits netlist (select a c d) h k f = absurd (true≢false (sym h))

pub shape_fits : (netlist : Netlist) (t : ExprModel) → is_shape t ≡ true → IsExprOf netlist t → ExprFits t → ShapeFits (word_width netlist) t
shape_fits netlist (bin o a c) h k f = (let p = both_plain o a c h in (sym f.2, summand_fits netlist a p.0 k.0 f.0, summand_fits netlist c p.1 k.1 f.1))
shape_fits netlist (const w c) h k f = tt
shape_fits netlist (zext a w) h k f = summand_fits netlist (zext a w) h k f
shape_fits netlist (sext a w) h k f = summand_fits netlist (sext a w) h k f
shape_fits netlist (word w) h k f = summand_fits netlist (word w) h k f
shape_fits netlist (slice a hi lo) h k f = summand_fits netlist (slice a hi lo) h k f
shape_fits netlist (reg r w) h k f = absurd (true≢false (sym h))
shape_fits netlist (read space a w) h k f = absurd (true≢false (sym h))
shape_fits netlist (un o a) h k f = absurd (true≢false (sym h))
shape_fits netlist (cat a c) h k f = absurd (true≢false (sym h))
shape_fits netlist (select a c d) h k f = absurd (true≢false (sym h))
