-- When a list has no form but jumps and branches, and when it has no jump.
use Rattle.std.proofs.Common.{◌≡◌, ◌↔◌, ℕ, zero, suc, ◌+◌, ◌^◌, ◌<◌, ◌==◌, ◌&&◌, Bool, true, false, true≢false, cond, List, [], ◌∷◌, ◌++◌, Some, None, slice_get, refl, sym, ap, subst, ◌∙◌, arith, inl, inr}
use Rattle.std.specs.Prelude.{◌⊎◌}
use Rattle.std.proofs.lemmas.Nat.{pow_pos, and_le_l}
use Rattle.rec_bits.proofs.Booleans.{and_from, both}
use Rattle.net_model.specs.declared.hardware.Netlist.{Netlist}
use Rattle.net_model.specs.Nets.{counter_of, counter_width, memory_id}
use Rattle.net_model.specs.Patterns.{Pattern}
use Rattle.net_model.specs.Exprs.{ExprModel, TransferModel, write, next_of, swapped_next_of}
use Rattle.net_model.specs.Transfers.{transfer_at}
use Rattle.net_model.specs.Fields.{transfer_fields}
use Rattle.form_model.specs.Forms.{FormModel, into_file, into_memory, into_reg}
use Rattle.form_set.specs.Static.{is_file_at}
use Rattle.form_set.specs.Listing.{AreFormModels, AreFormModelsOf, plain, jump, branch, other, IsBranch, IsJump, IsPlain, branch_form_model, plain_form_model, counter_at, goal_at, sides_of, test_sides}
use Rattle.form_set.specs.Promises.{all_form_models, is_no_jump, is_control_goal, no_jumps, only_control}
use Rattle.operand_swaps.specs.Swaps.{swap_count}
use Rattle.form_set.specs.Listing.{map_below}
use Rattle.form_set.specs.Targets.{Branch, expr_branch}
use Rattle.transfer_set.specs.declared.stepping.Counter.{Counter}
use Rattle.form_set.proofs.RuleLists.{branch_not_jump, plain_not_jump}

-- ---- lists

all_append : (q : FormModel → Bool) (xs ys : List FormModel) → all_form_models q (xs ++ ys) ≡ (all_form_models q xs && all_form_models q ys)
all_append q [] ys = refl
all_append q (x ∷ xs) ys = by (q x) (all_append q xs ys)
  where
    by : (b : Bool) → all_form_models q (xs ++ ys) ≡ (all_form_models q xs && all_form_models q ys) → (b && all_form_models q (xs ++ ys)) ≡ ((b && all_form_models q xs) && all_form_models q ys)
    by true e = e
    by false e = refl

all_each : (q : FormModel → Bool) (f : ℕ → FormModel) → ((k : ℕ) → q (f k) ≡ true) → (n : ℕ) → all_form_models q (map_below f n) ≡ true
all_each q f h zero = refl
all_each q f h (suc n) = all_append q (map_below f n) (f n ∷ []) ∙ and_from (all_form_models q (map_below f n)) (all_form_models q (f n ∷ [])) (all_each q f h n) (and_from (q (f n)) true (h n) refl)

none_each : (q : FormModel → Bool) (f : ℕ → FormModel) → ((k : ℕ) → q (f k) ≡ false) → (n : ℕ) → 0 < n → all_form_models q (map_below f n) ≡ true → ⊥
none_each q f h zero lt e = omega (arith, lt)
none_each q f h (suc n) lt e =
    let s = both (all_form_models q (map_below f n)) (all_form_models q (f n ∷ [])) (sym (all_append q (map_below f n) (f n ∷ [])) ∙ e) in
    true≢false (sym (both (q (f n)) true s.1).0 ∙ h n)

-- ---- goals

goal_plain : (netlist : Netlist) (storage : ℕ) → (is_control_goal (goal_at netlist storage) ≡ false) × (is_no_jump (goal_at netlist storage) ≡ true)
goal_plain netlist storage = by (storage == memory_id netlist.storages) (is_file_at netlist storage)
  where
    by : (b c : Bool) → (is_control_goal (cond b into_memory (cond c into_file (into_reg storage))) ≡ false) × (is_no_jump (cond b into_memory (cond c into_file (into_reg storage))) ≡ true)
    by true c = (refl, refl)
    by false true = (refl, refl)
    by false false = (refl, refl)

-- ---- a pattern that steps is no branch

sum_no_branch : (edition : ℕ) (pc : Counter) (reach : ℕ) (t : ExprModel) (id width : ℕ) → (t ≡ next_of id width) ⊎ (t ≡ swapped_next_of id width) → expr_branch edition pc reach t ≡ None
sum_no_branch edition pc reach t id width (inl e) = ap (expr_branch edition pc reach) e
sum_no_branch edition pc reach t id width (inr e) = ap (expr_branch edition pc reach) e

write_both : (m : TransferModel) (t : ExprModel) (a b : ExprModel) → m ≡ write t → (m ≡ write a) ⊎ (m ≡ write b) → (t ≡ a) ⊎ (t ≡ b)
write_both m t a b e (inl q) = inl (cc)
write_both m t a b e (inr q) = inr (cc)

pub plain_not_branch : (netlist : Netlist) (reach : ℕ) (p : Pattern) (parts : Branch) → IsPlain netlist p → IsBranch netlist reach p parts → ⊥
plain_not_branch netlist reach p parts h b =
    let w = h.ok 0 (let le = and_le_l 0 (transfer_fields p.move) in omega (arith, le)) in
    let to : transfer_at netlist w.0 (counter_of netlist.codes) ≡ write b.value = sym (ap (transfer_at netlist w.0) b.storage) ∙ w.2.given.gives ∙ b.move in
    let nothing = sum_no_branch netlist.edition (counter_at netlist) reach b.value (counter_of netlist.codes) (counter_width netlist) (write_both _ b.value _ _ to w.2.steps.step) in
    let some = b.parts in
    absurd (cc)

-- ---- one pattern

control_of : (netlist : Netlist) (reach number : ℕ) (p : Pattern) (forms : List FormModel) → AreFormModelsOf netlist reach number p forms → (only_control forms ≡ true) ↔ (IsPlain netlist p → ⊥)
control_of netlist reach number p forms (plain clobbers h c e) = (
  (λ t k. none_each (λ form. is_control_goal form.goal) (plain_form_model netlist number p clobbers) (λ j. (goal_plain netlist p.storage).0) (2 ^ swap_count (sides_of p.move)) (pow_pos (swap_count (sides_of p.move)))
      (subst (λ rs. only_control rs ≡ true) e t)),
  λ never. absurd (never h),
)
control_of netlist reach number p forms (jump h e) = ((λ t k. plain_not_jump netlist p k h), λ never. ap only_control e)
control_of netlist reach number p forms (branch parts h e) = (
  (λ t k. plain_not_branch netlist reach p parts k h),
  λ never. ap only_control e ∙ all_each (λ form. is_control_goal form.goal) (branch_form_model netlist number p parts) (λ j. refl) (2 ^ swap_count (test_sides parts)),
)
control_of netlist reach number p forms (other a b c e) = ((λ t. a), λ never. ap only_control e)

jumps_of : (netlist : Netlist) (reach number : ℕ) (p : Pattern) (forms : List FormModel) → AreFormModelsOf netlist reach number p forms → (no_jumps forms ≡ true) ↔ (IsJump netlist p → ⊥)
jumps_of netlist reach number p forms (plain clobbers h c e) = (
  (λ t j. plain_not_jump netlist p h j),
  λ never. ap no_jumps e ∙ all_each (λ form. is_no_jump form.goal) (plain_form_model netlist number p clobbers) (λ j. (goal_plain netlist p.storage).1) (2 ^ swap_count (sides_of p.move)),
)
jumps_of netlist reach number p forms (jump h e) = ((λ t. absurd (true≢false (sym (subst (λ rs. no_jumps rs ≡ true) e t)))), λ never. absurd (never h))
jumps_of netlist reach number p forms (branch parts h e) = (
  (λ t j. branch_not_jump netlist reach p parts h j),
  λ never. ap no_jumps e ∙ all_each (λ form. is_no_jump form.goal) (branch_form_model netlist number p parts) (λ j. refl) (2 ^ swap_count (test_sides parts)),
)
jumps_of netlist reach number p forms (other a b c e) = ((λ t. b), λ never. ap no_jumps e)

-- ---- all patterns

module _ (netlist : Netlist) (reach : ℕ) (q : FormModel → Bool) (P : Pattern → Type 0)
    (one : (number : ℕ) (p : Pattern) (forms : List FormModel) → AreFormModelsOf netlist reach number p forms → (all_form_models q forms ≡ true) ↔ (P p → ⊥)) where
  none_is : (number : ℕ) (ps : List Pattern) (forms : List FormModel) → AreFormModels netlist reach number ps forms
      → (all_form_models q forms ≡ true) ↔ ((k : ℕ) (p : Pattern) → slice_get ps k ≡ Some p → P p → ⊥)
  none_is number [] forms h = ((λ t k p at. absurd (cc)), λ never. ap (all_form_models q) h)
  none_is number (x ∷ ps) forms h =
      let f = one number x h.0 h.2 in
      let r = none_is (number + 1) ps h.1 h.3 in
      let e = ap (all_form_models q) h.4 ∙ all_append q h.0 h.1 in (
        (λ t. (let s = both (all_form_models q h.0) (all_form_models q h.1) (sym e ∙ t) in here s.0 s.1 f.0 r.0)),
        λ never. e ∙ and_from (all_form_models q h.0) (all_form_models q h.1) (f.1 (λ y. never 0 x refl y)) (r.1 (λ k p at y. never (suc k) p at y)),
      )
    where
      here : all_form_models q h.0 ≡ true → all_form_models q h.1 ≡ true → (all_form_models q h.0 ≡ true → P x → ⊥) → (all_form_models q h.1 ≡ true → (k : ℕ) (p : Pattern) → slice_get ps k ≡ Some p → P p → ⊥)
          → (k : ℕ) (p : Pattern) → slice_get (x ∷ ps) k ≡ Some p → P p → ⊥
      here a b f r zero p at y = f a (let e : p ≡ x = cc in subst P e y)
      here a b f r (suc k) p at y = r b k p at y

-- no form but jump and branch forms: no pattern is plain
pub no_step : (netlist : Netlist) (reach number : ℕ) (ps : List Pattern) (forms : List FormModel) → AreFormModels netlist reach number ps forms
    → (only_control forms ≡ true) ↔ ((k : ℕ) (p : Pattern) → slice_get ps k ≡ Some p → IsPlain netlist p → ⊥)
no_step netlist reach number ps forms h = none_is netlist reach (λ form. is_control_goal form.goal) (IsPlain netlist) (control_of netlist reach) number ps forms h

-- no jump form: no pattern is a jump
pub no_jump : (netlist : Netlist) (reach number : ℕ) (ps : List Pattern) (forms : List FormModel) → AreFormModels netlist reach number ps forms
    → (no_jumps forms ≡ true) ↔ ((k : ℕ) (p : Pattern) → slice_get ps k ≡ Some p → IsJump netlist p → ⊥)
no_jump netlist reach number ps forms h = none_is netlist reach (λ form. is_no_jump form.goal) (IsJump netlist) (jumps_of netlist reach) number ps forms h
