-- Shapes that show all numbers below one.
use Rattle.std.proofs.Common.{◌≡◌, ℕ, zero, suc, ◌+◌, ◌-◌, ◌*◌, ◌%◌, ◌<◌, ◌≤◌, ◌^◌, Bool, true, false, arith, sym, ap, ◌∙◌, refl, nat_lt, inl, inr}
use Rattle.std.specs.Prelude.{is_some, ◌&&◌}
use Rattle.std.proofs.lemmas.Bool.{cases_eq}
use Rattle.std.proofs.lemmas.Bool.Decides.{nat_tests}
use Rattle.std.proofs.Math.Pow.{pow_mono}
use Rattle.std.proofs.Math.Nat.{mod-eq_of_lt}
use Rattle.rec_bits.proofs.Booleans.{and-false}
use Rattle.rec_bits.proofs.Options.{some_given}
use Rattle.net_model.specs.Exprs.{ExprModel, word, slice, zext}
use Rattle.form_model.specs.Shapes.{then_some, field_setting, shows, shows_below}
use Rattle.tree_grammar.specs.Inner.Settings.{IsSteady}

pub never_below : (t : ExprModel) (n v : ℕ) → v < n → shows t v ≡ false → shows_below t n ≡ false
never_below t zero v lt e = absurd (omega arith)
never_below t (suc n) v lt e = elim (cases_eq v n) [
  | inl same ↦ ap (λ b. b && shows_below t n) (sym (ap (shows t) same) ∙ e)
  | inr other ↦ ap (λ b. shows t n && b) (never_below t n v (omega arith) e) ∙ and-false (shows t n)
]

pub always_below : (v w : ℕ) → v < 2 ^ 64 → 64 ≤ w → nat_lt v (2 ^ w) ≡ true
always_below v w h k = let m = pow_mono k in let lt : v < 2 ^ w = omega (arith, h, m) in grind (arith, nat_tests, lt)

pub low_always : (v w : ℕ) → v < 2 ^ 64 → 64 ≤ w → v % 2 ^ w ≡ v
low_always v w h k = let m = pow_mono k in let lt : v < 2 ^ w = omega (arith, h, m) in mod-eq_of_lt lt

lt_steady : (v u w : ℕ) → u ≤ v → nat_lt v w ≡ true → nat_lt u w ≡ true
lt_steady v u w le h = grind (arith, nat_tests, le, h)

given_steady : (v u w m n : ℕ) → u ≤ v → is_some (then_some (nat_lt v w) m) ≡ true → is_some (then_some (nat_lt u w) n) ≡ true
given_steady v u w m n le h = some_given (nat_lt u w) n ∙ lt_steady v u w le (sym (some_given (nat_lt v w) m) ∙ h)

slice_steady : (a : ExprModel) (hi lo v u : ℕ) → u ≤ v → is_some (field_setting (slice a hi lo) v) ≡ true → is_some (field_setting (slice a hi lo) u) ≡ true
slice_steady (word w) hi lo v u le h = given_steady v u (2 ^ (hi + 1 - lo)) (v * 2 ^ lo) (u * 2 ^ lo) le h
slice_steady _ hi lo v u le h = absurd (cc)

field_steady : (t : ExprModel) (v u : ℕ) → u ≤ v → is_some (field_setting t v) ≡ true → is_some (field_setting t u) ≡ true
field_steady (word w) v u le h = given_steady v u (2 ^ w) v u le h
field_steady (slice a hi lo) v u le h = slice_steady a hi lo v u le h
field_steady _ v u le h = absurd (cc)

pub word_steady : (w : ℕ) → IsSteady (word w)
word_steady w v u le h = field_steady (word w) v u le h

pub part_steady : (a : ExprModel) (hi lo : ℕ) → IsSteady (slice a hi lo)
part_steady a hi lo v u le h = field_steady (slice a hi lo) v u le h

pub zext_steady : (a : ExprModel) (w : ℕ) → IsSteady (zext a w)
zext_steady a w v u le h = field_steady a v u le h

all_below : (t : ExprModel) (n : ℕ) → IsSteady t → shows t n ≡ true → shows_below t n ≡ true
all_below t zero s h = refl
all_below t (suc n) s h =
    let k : shows t n ≡ true = s (suc n) n (omega arith) h in
    ap (λ b. b && shows_below t n) k ∙ all_below t n s k

-- the greatest number decides
pub last_decides : (t : ExprModel) (count last : ℕ) → 0 < count → last ≡ count - 1 → IsSteady t → shows t last ≡ shows_below t count
last_decides t count last some is s =
    let c : count ≡ suc last = omega (arith, some, is) in
    go (shows t last) refl ∙ ap (shows_below t) (sym c)
  where
    go : (b : Bool) → shows t last ≡ b → shows t last ≡ (shows t last && shows_below t last)
    go true f = f ∙ sym (ap (λ b. b && shows_below t last) f ∙ all_below t last s f)
    go false f = f ∙ sym (ap (λ b. b && shows_below t last) f)
