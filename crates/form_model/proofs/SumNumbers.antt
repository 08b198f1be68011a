-- The numbers that are added in a sum.
use Rattle.std.proofs.Common.{◌≡◌, ◌⊎◌, inl, inr, ℕ, ◌+◌, ◌-◌, ◌*◌, ◌%◌, ◌^◌, ◌<◌, ◌≤◌, ◌==◌, nat_lt, ◌&&◌, Bool, true, false, cond, Some, None, refl, ap, ◌∙◌, arith}
use Rattle.std.specs.Prelude.{nat_le}
use Rattle.std.proofs.lemmas.Bool.{eqb-true, ltb-true}
use Rattle.std.proofs.lemmas.Nat.{mod_low}
use Rattle.std.proofs.Math.Nat.{mod-eq_of_lt}
use Rattle.net_model.specs.Exprs.{ExprModel, expr_width}
use Rattle.form_model.specs.Shapes.{Sum, less_by, sum_with}

pub less_back : (w v c : ℕ) → c ≤ v → v < 2 ^ w → less_by w v c ≡ v - c
less_back w v c le lt =
    ap (λ n. n % 2 ^ w) (let e : v + 2 ^ w - c ≡ 1 * 2 ^ w + (v - c) = omega (arith, le) in e) ∙ mod_low 1 w (v - c) (omega (arith, lt))

pub less_around : (w v c : ℕ) → v < c → c < 2 ^ w → less_by w v c ≡ v + 2 ^ w - c
less_around w v c lt small = mod-eq_of_lt (omega (arith, lt, small))

past : (w n : ℕ) → 2 ^ w ≤ n → n < 2 ^ w + 2 ^ w → n % 2 ^ w ≡ n - 2 ^ w
past w n le lt = ap (λ k. k % 2 ^ w) (let e : n ≡ 1 * 2 ^ w + (n - 2 ^ w) = omega (arith, le) in e) ∙ mod_low 1 w (n - 2 ^ w) (omega (arith, lt, le))

pub cases_le : (a b : ℕ) → (a ≤ b) ⊎ (b < a)
cases_le a b = by (nat_le a b) refl
  where
    by : (t : Bool) → nat_le a b ≡ t → (a ≤ b) ⊎ (b < a)
    by true e = inl (grind (arith, e))
    by false e = inr (grind (arith, e))

-- the number to which the constant is added to give the value
pub added_back : (w v c : ℕ) → c < 2 ^ w → v < 2 ^ w → (c + less_by w v c) % 2 ^ w ≡ v
added_back w v c small lt = by (cases_le c v)
  where
    by : (c ≤ v) ⊎ (v < c) → (c + less_by w v c) % 2 ^ w ≡ v
    by (inl le) = ap (λ n. (c + n) % 2 ^ w) (less_back w v c le lt) ∙ (ap (λ n. n % 2 ^ w) (let e : c + (v - c) ≡ v = omega (arith, le) in e) ∙ mod-eq_of_lt lt)
    by (inr less) =
        ap (λ n. (c + n) % 2 ^ w) (less_around w v c less small)
        ∙ (ap (λ n. n % 2 ^ w) (let e : c + (v + 2 ^ w - c) ≡ 1 * 2 ^ w + v = omega (arith, less, small) in e) ∙ mod_low 1 w v lt)

-- and no other number
pub back_added : (w x c : ℕ) → c < 2 ^ w → x < 2 ^ w → less_by w ((c + x) % 2 ^ w) c ≡ x
back_added w x c small lt = by (cases_le (2 ^ w) (c + x))
  where
    by : (2 ^ w ≤ c + x) ⊎ (c + x < 2 ^ w) → less_by w ((c + x) % 2 ^ w) c ≡ x
    by (inl le) =
        let around : (c + x) % 2 ^ w ≡ c + x - 2 ^ w = past w (c + x) le (omega (arith, small, lt)) in
        ap (λ n. less_by w n c) around ∙ (less_around w (c + x - 2 ^ w) c (omega (arith, le, lt)) small ∙ omega (arith, le))
    by (inr less) = ap (λ n. less_by w n c) (mod-eq_of_lt less) ∙ (less_back w (c + x) c (omega arith) less ∙ omega arith)

-- a constant that is added is of its width, and what it is added to is as wide
pub record IsSumWith (w c : ℕ) (t : ExprModel) (s : Sum) : Type 0 where
  pub is : record { width = w; added = c; to = t } ≡ s
  pub small : c < 2 ^ w
  pub wide : expr_width t ≡ w

pub sum_is_with : (w c : ℕ) (t : ExprModel) (s : Sum) → sum_with w c t ≡ Some s → IsSumWith w c t s
sum_is_with w c t s e = by (nat_le w 64) (nat_lt c (2 ^ w)) (expr_width t == w) refl refl e
  where
    by : (a b d : Bool) → nat_lt c (2 ^ w) ≡ b → (expr_width t == w) ≡ d → cond (a && (b && d)) (Some (record { width = w; added = c; to = t })) None ≡ Some s → IsSumWith w c t s
    by true true true lt eq e = record { is = cc; small = ltb-true c (2 ^ w) lt; wide = eqb-true _ _ eq }
    by false b d lt eq e = absurd (cc)
    by true false d lt eq e = absurd (cc)
    by true true false lt eq e = absurd (cc)
