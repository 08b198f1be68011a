-- The bits that the layout gives a target mean that target.
use Rattle.std.proofs.Common.{ℕ, ◌≡◌, ◌≤◌, ◌<◌, ◌+◌, ◌-◌, ◌*◌, ◌/◌, ◌%◌, ◌^◌, Bool, true, false, min, Some, None, refl, sym, ◌∙◌, ap, arith, Option, is_some, unwrap_or}
use Rattle.std.proofs.lemmas.Nat.{pow_pos, mod_below}
use Rattle.std.proofs.Math.Nat.{mod-eq_of_lt, add-mul-mod_self_left}
use Rattle.net_model.specs.declared.states.State.{State}
use Rattle.net_model.specs.Exprs.{ExprModel, expr_width}
use Rattle.net_model.specs.Meaning.{mean}
use Rattle.form_model.specs.Shapes.{shape_setting, shows}
use Rattle.form_model.proofs.SettingLaws.{setting_means}
use Rattle.form_model.specs.Forms.{FormModel, absolute, relative}
use Rattle.branch_fix.specs.Items.{jump_step, target_setting}
use Rattle.branch_fix.specs.Rounds.{difference, distance, target_shows}
use Rattle.branch_fix.proofs.Distances.{split}

-- ---- a relative branch

mod_inside : (a x p : ℕ) → 0 < p → (a + x % p) % p ≡ (a + x) % p
mod_inside a x p lt =
    let e : a + x ≡ a + x % p + p * (x / p) = (let s = split x p lt in omega (arith, s)) in
    sym (ap (λ n. n % p) e ∙ add-mul-mod_self_left (a + x % p) p (x / p))

rounded : (p from to : ℕ) → 0 < p → from + (to + (p - from % p)) ≡ to + p * (from / p + 1)
rounded p from to some =
    let s = split from p some in
    let r = mod_below from p some in
    omega (arith, s, r)

-- so many words on from an address is the place that lies so far behind it
pub distance_leads : (width from to : ℕ) → width ≤ 64 → to < 2 ^ width → (from + distance width from to) % 2 ^ width ≡ to
distance_leads width from to le lt =
    let m : min width 64 ≡ width = omega arith in
    ap (λ n. (from + difference n from to) % 2 ^ width) m
    ∙ mod_inside from (to + (2 ^ width - from % 2 ^ width)) (2 ^ width) (pow_pos width)
    ∙ ap (λ n. n % 2 ^ width) (rounded (2 ^ width) from to (pow_pos width))
    ∙ add-mul-mod_self_left to (2 ^ width) (from / 2 ^ width + 1) ∙ mod-eq_of_lt lt

-- ---- the bits of a target

shown_means : (shape : ExprModel) (s : State) (v : ℕ) → shows shape v ≡ true → mean shape s (unwrap_or (shape_setting shape v) 0) ≡ v
shown_means shape s v e = by (shape_setting shape v) refl e
  where
    by : (o : Option ℕ) → shape_setting shape v ≡ o → is_some o ≡ true → mean shape s (unwrap_or o 0) ≡ v
    by None q h = absurd (cc h)
    by (Some b) q h = setting_means shape s v b q

pub jumps_lead : (form : FormModel) (s : State) (to : ℕ) → shows form.value to ≡ true → mean form.value s (jump_step (Some form) to).setting ≡ to
jumps_lead form s to e = shown_means form.value s to e

pub absolute_leads : (shape : ExprModel) (s : State) (from to : ℕ) (long : Bool) → shows shape to ≡ true
    → mean shape s (target_setting (absolute shape) from to long) ≡ to
absolute_leads shape s from to long e = shown_means shape s to e

pub relative_leads : (shape : ExprModel) (s : State) (from to : ℕ) → expr_width shape ≤ 64 → to < 2 ^ expr_width shape →
    target_shows (relative shape) from to ≡ true → (from + mean shape s (target_setting (relative shape) from to false)) % 2 ^ expr_width shape ≡ to
relative_leads shape s from to narrow within e =
    ap (λ n. (from + n) % 2 ^ expr_width shape) (shown_means shape s (distance (expr_width shape) from to) e) ∙ distance_leads (expr_width shape) from to narrow within

pub long_leads : (shape : ExprModel) (s : State) (from to : ℕ) → shows shape 2 ≡ true → mean shape s (target_setting (relative shape) from to true) ≡ 2
long_leads shape s from to e = shown_means shape s 2 e
