-- What a shape means under the bits that its setting has.
use Rattle.std.proofs.Common.{◌≡◌, ℕ, ◌+◌, ◌-◌, ◌*◌, ◌/◌, ◌%◌, ◌^◌, ◌<◌, ◌≤◌, ◌==◌, ◌&&◌, ◌||◌, inl, inr, nat_lt, nat_le, true, false, Option, Some, None, refl, sym, ap, subst, ◌∙◌, arith}
use Rattle.std.specs.Int.{bit_at}
use Rattle.std.proofs.lemmas.Nat.{pow_pos}
use Rattle.std.proofs.lemmas.Nat.Bits.{bit_at-zero, bit_at_cat_low, bit_at_cat_high, bit_at_above, same_from_bits, same_from_bits_below}
use Rattle.std.proofs.lemmas.Bool.{true≢false, eqb-true, le-leb, cases_lt, ltb-true, leb-false, and_cases}
use Rattle.std.proofs.Math.Nat.{add_comm}
use Rattle.rec_bits.specs.declared.operator.Op2.TheVariants.{Add}
use Rattle.rec_bits.specs.Operators.{slice_of, sext_of}
use Rattle.rec_bits.proofs.Booleans.{left_false}
use Rattle.rec_bits.proofs.Options.{picked}
use Rattle.net_model.specs.declared.states.State.{State}
use Rattle.net_model.specs.Exprs.{ExprModel, word, const, bin, slice, zext, sext, expr_width}
use Rattle.net_model.specs.Meaning.{mean}
use Rattle.form_model.specs.Bits.{uses}
use Rattle.form_model.specs.Shapes.{Sum, field_setting, less_by, plain_setting, shape_setting, sum_setting, summands}
use Rattle.form_model.proofs.FieldLaws.{then_some_true}
use Rattle.form_model.proofs.SumNumbers.{added_back, sum_is_with}

-- the bits give a shape a value: they are among those that occur in it, and each word that has the
-- same there gives it the value, in each state
pub record IsSetting (e : ExprModel) (v bits : ℕ) : Type 0 where
  pub within : (k : ℕ) → uses e k ≡ false → bit_at bits k ≡ 0
  pub means : (s : State) (i : ℕ) → ((k : ℕ) → uses e k ≡ true → bit_at i k ≡ bit_at bits k) → mean e s i ≡ v

-- ---- numbers shifted up

pub up_low : (v lo k : ℕ) → k < lo → bit_at (v * 2 ^ lo) k ≡ 0
up_low v lo k h = ap (λ n. bit_at n k) (omega arith) ∙ bit_at_cat_low v lo 0 k h ∙ bit_at-zero k

pub up_high : (v lo k : ℕ) → lo ≤ k → bit_at (v * 2 ^ lo) k ≡ bit_at v (k - lo)
up_high v lo k h = ap (λ n. bit_at n k) (omega arith) ∙ bit_at_cat_high v lo 0 k (pow_pos lo) h

-- the bits of a slice
low_bit : (x n k : ℕ) → k < n → bit_at (x % 2 ^ n) k ≡ bit_at x k
low_bit x n k h =
    let p : 0 < 2 ^ n = pow_pos n in
    let e : x / 2 ^ n * 2 ^ n + x % 2 ^ n ≡ x = omega arith in
    sym (bit_at_cat_low (x / 2 ^ n) n (x % 2 ^ n) k h) ∙ ap (λ m. bit_at m k) e

high_bit : (x n k : ℕ) → bit_at (x / 2 ^ n) k ≡ bit_at x (k + n)
high_bit x n k =
    let p : 0 < 2 ^ n = pow_pos n in
    let e : x / 2 ^ n * 2 ^ n + x % 2 ^ n ≡ x = omega arith in
    let l : x % 2 ^ n < 2 ^ n = omega arith in
    let d : k + n - n ≡ k = omega arith in
    ap (λ m. bit_at (x / 2 ^ n) m) (sym d) ∙ sym (bit_at_cat_high (x / 2 ^ n) n (x % 2 ^ n) (k + n) l (omega arith)) ∙ ap (λ m. bit_at m (k + n)) e

slice_bit : (i hi lo k : ℕ) → k < hi + 1 - lo → bit_at (slice_of i hi lo) k ≡ bit_at i (k + lo)
slice_bit i hi lo k h = low_bit (i / 2 ^ lo) (hi + 1 - lo) k h ∙ high_bit i lo k

-- ---- shapes

slice_outside : (v hi lo k : ℕ) → v < 2 ^ (hi + 1 - lo) → (nat_le lo k && nat_le k hi) ≡ false → bit_at (v * 2 ^ lo) k ≡ 0
slice_outside v hi lo k l h =
    elim (cases_lt k lo) as (λ _. bit_at (v * 2 ^ lo) k ≡ 0) [
      | inl m ↦ up_low v lo k m
      | inr m ↦ elim (and_cases (nat_le lo k) (nat_le k hi) h) as (λ _. bit_at (v * 2 ^ lo) k ≡ 0) [
        | inl f ↦ absurd (true≢false (sym (le-leb lo k m) ∙ f))
        | inr f ↦ let u : hi < k = leb-false k hi f in up_high v lo k m ∙ bit_at_above v (hi + 1 - lo) (k - lo) l (omega arith)
      ]
    ]

inside : (lo k hi : ℕ) → lo ≤ k → k ≤ hi → (nat_le lo k && nat_le k hi) ≡ true
inside lo k hi p q = rw (le-leb lo k p, le-leb k hi q) refl

slice_inside : (v hi lo i : ℕ) → v < 2 ^ (hi + 1 - lo) → ((k : ℕ) → (nat_le lo k && nat_le k hi) ≡ true → bit_at i k ≡ bit_at (v * 2 ^ lo) k) → slice_of i hi lo ≡ v
slice_inside v hi lo i l f = same_from_bits_below (hi + 1 - lo) (slice_of i hi lo) v below l each
  where
    below : slice_of i hi lo < 2 ^ (hi + 1 - lo)
    below = let p : 0 < 2 ^ (hi + 1 - lo) = pow_pos (hi + 1 - lo) in omega arith

    each : (k : ℕ) → k < hi + 1 - lo → bit_at (slice_of i hi lo) k ≡ bit_at v k
    each k h =
        let e : k + lo - lo ≡ k = omega arith in
        slice_bit i hi lo k h ∙ f (k + lo) (inside lo (k + lo) hi (omega arith) (omega arith)) ∙ up_high v lo (k + lo) (omega arith) ∙ ap (λ m. bit_at v m) e

pub field_sets : (e : ExprModel) (v bits : ℕ) → field_setting e v ≡ Some bits → IsSetting e v bits
field_sets (word w) v bits h =
    let e : v ≡ bits = (then_some_true _ _ _ h).1 in
    record { within = λ k f. absurd (true≢false f); means = λ s i f. same_from_bits i v (λ k. f k refl ∙ ap (λ n. bit_at n k) (sym e)) }
field_sets (slice (word w) hi lo) v bits h =
    let p : (nat_lt v (2 ^ (hi + 1 - lo)) ≡ true) × (v * 2 ^ lo ≡ bits) = then_some_true _ _ _ h in
    let l : v < 2 ^ (hi + 1 - lo) = ltb-true v (2 ^ (hi + 1 - lo)) p.0 in
    record {
      within = λ k f. ap (λ n. bit_at n k) (sym p.1) ∙ slice_outside v hi lo k l f;
      means = λ s i f. slice_inside v hi lo i l (λ k u. f k u ∙ ap (λ n. bit_at n k) (sym p.1));
    }
field_sets e v bits h = absurd (cc)

plain_sets : (e : ExprModel) (v bits : ℕ) → plain_setting e v ≡ Some bits → IsSetting e v bits
plain_sets (const w c) v bits h =
    let p : ((v == c) ≡ true) × (0 ≡ bits) = then_some_true _ _ _ h in
    record { within = λ k f. ap (λ n. bit_at n k) (sym p.1) ∙ bit_at-zero k; means = λ s i f. sym (eqb-true v c p.0) }
plain_sets (zext a w) v bits h = let r : IsSetting a v bits = field_sets a v bits h in record { within = r.within; means = r.means }
plain_sets (sext a w) v bits h =
    let p : ((sext_of (v % 2 ^ expr_width a) (expr_width a) w == v) ≡ true) × (field_setting a (v % 2 ^ expr_width a) ≡ Some bits) = picked _ _ _ h in
    let r : IsSetting a (v % 2 ^ expr_width a) bits = field_sets a (v % 2 ^ expr_width a) bits p.1 in
    record { within = r.within; means = λ s i f. ap (λ n. sext_of n (expr_width a) w) (r.means s i f) ∙ eqb-true _ v p.0 }
plain_sets (word w) v bits h = field_sets (word w) v bits h
plain_sets (slice a hi lo) v bits h = field_sets (slice a hi lo) v bits h
plain_sets e v bits h = absurd (cc)

-- a sum has the bits of its other part
sum_sets : (a b : ExprModel) (s : Sum) (v bits : ℕ) → summands a b ≡ Some s → v < 2 ^ s.width → plain_setting s.to (less_by s.width v s.added) ≡ Some bits → IsSetting (bin Add a b) v bits
sum_sets (const w c) b s v bits e lt h =
    let x = sum_is_with w c b s e in
    let r : IsSetting b (less_by w v c) bits = plain_sets b (less_by w v c) bits (subst (λ (z : Sum). plain_setting z.to (less_by z.width v z.added) ≡ Some bits) (sym x.is) h) in
    let lt' : v < 2 ^ w = subst (λ (z : Sum). v < 2 ^ z.width) (sym x.is) lt in
    record {
      within = r.within;
      means = λ st i f. ap (λ n. (c + n) % 2 ^ w) (r.means st i f) ∙ added_back w v c x.small lt';
    }
sum_sets a (const w c) s v bits e lt h =
    let x = sum_is_with w c a s e in
    let r : IsSetting a (less_by w v c) bits = plain_sets a (less_by w v c) bits (subst (λ (z : Sum). plain_setting z.to (less_by z.width v z.added) ≡ Some bits) (sym x.is) h) in
    let lt' : v < 2 ^ w = subst (λ (z : Sum). v < 2 ^ z.width) (sym x.is) lt in
    record {
      within = λ k f. r.within k (left_false (uses a k) false f);
      means = λ st i f.
          ap (λ n. (n + c) % 2 ^ expr_width a) (r.means st i (λ k u. f k (ap (λ b. b || false) u)))
          ∙ (ap (λ k. (less_by w v c + c) % 2 ^ k) x.wide ∙ (ap (λ n. n % 2 ^ w) (add_comm (less_by w v c) c) ∙ added_back w v c x.small lt'));
    }
sum_sets a b s v bits e lt h = absurd (cc)

pub shape_sets : (e : ExprModel) (v bits : ℕ) → shape_setting e v ≡ Some bits → IsSetting e v bits
shape_sets (bin Add a b) v bits h = by (summands a b) refl h
  where
    by : (o : Option Sum) → summands a b ≡ o → sum_setting o v ≡ Some bits → IsSetting (bin Add a b) v bits
    by None e h = absurd (cc)
    by (Some s) e h =
        let p : (nat_lt v (2 ^ s.width) ≡ true) × (plain_setting s.to (less_by s.width v s.added) ≡ Some bits) = picked _ _ _ h in
        sum_sets a b s v bits e (ltb-true v (2 ^ s.width) p.0) p.1
shape_sets (bin _ a b) v bits h = absurd (cc)
shape_sets (const w c) v bits h = plain_sets (const w c) v bits h
shape_sets (zext a w) v bits h = plain_sets (zext a w) v bits h
shape_sets (sext a w) v bits h = plain_sets (sext a w) v bits h
shape_sets (word w) v bits h = plain_sets (word w) v bits h
shape_sets (slice a hi lo) v bits h = plain_sets (slice a hi lo) v bits h
shape_sets e v bits h = absurd (cc)

-- the word that has these bits and no other is one of them
pub setting_means : (e : ExprModel) (s : State) (v bits : ℕ) → shape_setting e v ≡ Some bits → mean e s bits ≡ v
setting_means e s v bits h = (shape_sets e v bits h).means s bits (λ k u. refl)

pub plain_means : (e : ExprModel) (s : State) (v bits : ℕ) → plain_setting e v ≡ Some bits → mean e s bits ≡ v
plain_means e s v bits h = (plain_sets e v bits h).means s bits (λ k u. refl)

pub field_means : (e : ExprModel) (s : State) (v bits : ℕ) → field_setting e v ≡ Some bits → mean e s bits ≡ v
field_means e s v bits h = (field_sets e v bits h).means s bits (λ k u. refl)
