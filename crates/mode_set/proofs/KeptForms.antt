-- Forms that keep the mode, one form after the other.
use Rattle.std.proofs.Common.{ℕ, zero, suc, ◌≡◌, ◌↔◌, ◌<◌, ◌≤◌, ◌+◌, ◌/◌, ◌^◌, ◌==◌, ◌++◌, ◌⊎◌, inl, inr, max, true, false, List, [], ◌∷◌, length, Option, Some, None, refl, sym, ap, ◌∙◌, subst, slice_get, get_or, take, arith, eq-eqb, eqb-true}
use Rattle.std.specs.List.{AllByRecursion}
use Rattle.std.specs.Prelude.{IsTrue, bit_and, option_map}
use Rattle.std.proofs.lemmas.List.{map-append, take_more}
use Rattle.std.proofs.lemmas.Nat.Bits.{shr_and_one}
use Rattle.std.proofs.lemmas.Option.{slice_get-map, slice_get_read}
use Rattle.std.specs.Int.{bit_at}
use Rattle.net_model.specs.declared.hardware.Netlist.{Netlist}
use Rattle.net_model.specs.Patterns.{Pattern}
use Rattle.form_model.specs.declared.forms.Form.{Form}
use Rattle.form_model.specs.Registers.{AreLow, IsLow}
use Rattle.form_model.specs.Forms.{GoalModel, FormModel, into_reg, into_memory, into_file, jumps, branches, model_of_form, models_of_forms}
use Rattle.form_set.specs.Listing.{goal_reach, greatest_reach}
use Rattle.form_set.specs.Promises.{is_control_goal}
use Rattle.form_set.specs.Words.{CanTurn, TurnsAt}
use Rattle.mode_set.specs.Keeping.{AreKeeping, FormKeeps, FormKeepsMode, GoalKeeps}

module _ (netlist : Netlist) (patterns : List Pattern) (o : Option ℕ) where
  -- the forms that are kept of a front part and one more form
  pub kept_more : (forms kept : List FormModel) (form : FormModel) → AreKeeping netlist patterns o forms kept → FormKeepsMode netlist patterns o form → AreKeeping netlist patterns o (forms ++ form ∷ []) (kept ++ form ∷ [])
  kept_more [] kept form h k = ([], refl, inl (k, ap (λ (list : List FormModel). list ++ form ∷ []) h))
  kept_more (r ∷ forms) kept form h k = elim h.2 as (λ _. AreKeeping netlist patterns o (r ∷ (forms ++ form ∷ [])) (kept ++ form ∷ [])) [
    | inl x ↦ (h.0 ++ form ∷ [], kept_more forms h.0 form h.1 k, inl (x.0, ap (λ (list : List FormModel). list ++ form ∷ []) x.1))
    | inr x ↦ (h.0 ++ form ∷ [], kept_more forms h.0 form h.1 k, inr (x.0, ap (λ (list : List FormModel). list ++ form ∷ []) x.1))
  ]

  pub left_more : (forms kept : List FormModel) (form : FormModel) → AreKeeping netlist patterns o forms kept → (FormKeepsMode netlist patterns o form → ⊥) → AreKeeping netlist patterns o (forms ++ form ∷ []) kept
  left_more [] kept form h k = ([], refl, inr (k, h))
  left_more (r ∷ forms) kept form h k = elim h.2 as (λ _. AreKeeping netlist patterns o (r ∷ (forms ++ form ∷ [])) kept) [
    | inl x ↦ (h.0, left_more forms h.0 form h.1 k, inl x)
    | inr x ↦ (h.0, left_more forms h.0 form h.1 k, inr x)
  ]

pub reach_more : (forms : List FormModel) (form : FormModel) → greatest_reach (forms ++ form ∷ []) ≡ max (greatest_reach forms) (goal_reach form.goal)
reach_more [] form = omega arith
reach_more (r ∷ forms) form = let h = reach_more forms form in omega (arith, h)

-- ---- one form

none_past : {X : Type 0} (xs : List X) (k : ℕ) → slice_get xs k ≡ None → length xs ≤ k
none_past [] k e = omega arith
none_past (x ∷ xs) zero e = absurd (cc e)
none_past (x ∷ xs) (suc k) e = let h = none_past xs k e in omega (arith, h)

module _ (netlist : Netlist) (patterns : List Pattern) (mode : ℕ) (form : FormModel) where
  -- a form that is no jump and no branch keeps the mode where its clobbers don't hold it
  goal_clear : (pattern : Pattern) (k : GoalModel) → is_control_goal k ≡ false → bit_at form.clobbers mode ≡ 0 → GoalKeeps netlist pattern mode form k
  goal_clear pattern (into_reg id) e h = h
  goal_clear pattern into_memory e h = h
  goal_clear pattern into_file e h = h
  goal_clear pattern (jumps reach) e h = absurd (cc e)
  goal_clear pattern (branches when_one to) e h = absurd (cc e)

  clear_goal : (pattern : Pattern) (k : GoalModel) → is_control_goal k ≡ false → GoalKeeps netlist pattern mode form k → bit_at form.clobbers mode ≡ 0
  clear_goal pattern (into_reg id) e h = h
  clear_goal pattern into_memory e h = h
  clear_goal pattern into_file e h = h
  clear_goal pattern (jumps reach) e h = absurd (cc e)
  clear_goal pattern (branches when_one to) e h = absurd (cc e)

  pub stores_keep : is_control_goal form.goal ≡ false → form.pattern < length patterns → (bit_at form.clobbers mode ≡ 0) ↔ FormKeeps netlist patterns mode form
  stores_keep e lt = (λ h. by (slice_get patterns form.pattern) refl h, λ f. clear_goal f.pattern form.goal e f.keeps)
    where
      by : (q : Option Pattern) → slice_get patterns form.pattern ≡ q → bit_at form.clobbers mode ≡ 0 → FormKeeps netlist patterns mode form
      by None at h = absurd (let le = none_past patterns form.pattern at in omega (arith, lt, le))
      by (Some pattern) at h = record { pattern = pattern; at = at; keeps = goal_clear pattern form.goal e h }

  -- the same, as the code asks
  pub spared_keep : is_control_goal form.goal ≡ false → form.pattern < length patterns → IsTrue (bit_and (form.clobbers / 2 ^ mode) 1 == 0) ↔ FormKeeps netlist patterns mode form
  spared_keep e lt =
      let keep = stores_keep e lt in (
        λ t. keep.0 (sym (shr_and_one form.clobbers mode) ∙ eqb-true (bit_and (form.clobbers / 2 ^ mode) 1) 0 t),
        λ f. eq-eqb (bit_and (form.clobbers / 2 ^ mode) 1) 0 (shr_and_one form.clobbers mode ∙ keep.1 f),
      )

  -- a jump or a branch keeps it where its pattern turns
  goal_turns : (pattern : Pattern) (k : GoalModel) → is_control_goal k ≡ true → CanTurn netlist pattern mode → GoalKeeps netlist pattern mode form k
  goal_turns pattern (into_reg id) e h = absurd (cc e)
  goal_turns pattern into_memory e h = absurd (cc e)
  goal_turns pattern into_file e h = absurd (cc e)
  goal_turns pattern (jumps reach) e h = h
  goal_turns pattern (branches when_one to) e h = h

  turns_goal : (pattern : Pattern) (k : GoalModel) → is_control_goal k ≡ true → GoalKeeps netlist pattern mode form k → CanTurn netlist pattern mode
  turns_goal pattern (into_reg id) e h = absurd (cc e)
  turns_goal pattern into_memory e h = absurd (cc e)
  turns_goal pattern into_file e h = absurd (cc e)
  turns_goal pattern (jumps reach) e h = h
  turns_goal pattern (branches when_one to) e h = h

  pub turns_keep : is_control_goal form.goal ≡ true → TurnsAt netlist (slice_get patterns form.pattern) mode ↔ FormKeeps netlist patterns mode form
  turns_keep e = (
    λ h. by (slice_get patterns form.pattern) refl h,
    λ f. subst (λ q. TurnsAt netlist q mode) (sym f.at) (turns_goal f.pattern form.goal e f.keeps),
  )
    where
      by : (q : Option Pattern) → slice_get patterns form.pattern ≡ q → TurnsAt netlist q mode → FormKeeps netlist patterns mode form
      by None at h = absurd h
      by (Some pattern) at h = record { pattern = pattern; at = at; keeps = goal_turns pattern form.goal e h }

-- ---- lists of forms

-- what holds of a list and of one more form
low_cases : (forms : List FormModel) (form : FormModel) (k : ℕ) (other : FormModel) → slice_get (forms ++ form ∷ []) k ≡ Some other → (slice_get forms k ≡ Some other) ⊎ (form ≡ other)
low_cases [] form zero other e = inr (cc)
low_cases [] form (suc k) other e = absurd (cc)
low_cases (r ∷ forms) form zero other e = inl e
low_cases (r ∷ forms) form (suc k) other e = low_cases forms form k other e

low_more : (forms : List FormModel) (form : FormModel) → AreLow forms → IsLow form → AreLow (forms ++ form ∷ [])
low_more forms form low own = λ k other e. elim (low_cases forms form k other e) as (λ _. IsLow other) [
  | inl there ↦ low k other there
  | inr same ↦ subst IsLow same own
]

-- the pattern of a form of a list
pub pattern_at : (n : ℕ) (forms : List Form) (i : ℕ) (form : Form) → AllByRecursion (λ (f : Form). f.pattern < n) forms → i < length forms → form ≡ get_or forms i form → form.pattern < n
pattern_at n [] i form all lt is = absurd (omega (arith, lt))
pattern_at n (f ∷ forms) zero form all lt is = subst (λ (x : Form). x.pattern < n) (sym is) all.0
pattern_at n (f ∷ forms) (suc i) form all lt is = pattern_at n forms i form all.1 (omega (arith, lt)) is

-- its model
pub listed : (forms : List Form) (i : ℕ) (form : Form) → i < length forms → form ≡ get_or forms i form → slice_get (models_of_forms forms) i ≡ Some (model_of_form form)
listed forms i form lt is = slice_get-map model_of_form forms i ∙ ap (option_map model_of_form) (slice_get_read forms (length forms) i form refl lt is)

-- a form behind those before it
pub next_forms : (forms : List Form) (i : ℕ) (form : Form) → i < length forms → form ≡ get_or forms i form → models_of_forms (take (i + 1) forms) ≡ models_of_forms (take i forms) ++ model_of_form form ∷ []
next_forms forms i form lt is =
    ap models_of_forms (take_more forms i form lt)
    ∙ map-append model_of_form (take i forms) (get_or forms i form ∷ [])
    ∙ ap (λ (f : Form). models_of_forms (take i forms) ++ model_of_form f ∷ []) (sym is)

-- and its copy behind the copies
module _ (netlist : Netlist) (patterns : List Pattern) (mode : ℕ) (forms : List Form) (i : ℕ) (form : Form) (lt : i < length forms) (is : form ≡ get_or forms i form) (list : List Form) where
  pub left_next : AreKeeping netlist patterns (Some mode) (models_of_forms (take i forms)) (models_of_forms list) → (FormKeeps netlist patterns mode (model_of_form form) → ⊥)
      → AreKeeping netlist patterns (Some mode) (models_of_forms (take (i + 1) forms)) (models_of_forms list)
  left_next before loses =
      subst (λ models. AreKeeping netlist patterns (Some mode) models (models_of_forms list)) (sym (next_forms forms i form lt is))
      (left_more netlist patterns (Some mode) (models_of_forms (take i forms)) (models_of_forms list) (model_of_form form) before loses)

  module _ (more : List Form) (copy : Form) (pushed : more ≡ list ++ copy ∷ []) (same : model_of_form copy ≡ model_of_form form) where
    pushed_forms : models_of_forms more ≡ models_of_forms list ++ model_of_form form ∷ []
    pushed_forms =
        ap models_of_forms pushed ∙ map-append model_of_form list (copy ∷ []) ∙ ap (λ (r : FormModel). models_of_forms list ++ r ∷ []) same

    pub kept_next : AreKeeping netlist patterns (Some mode) (models_of_forms (take i forms)) (models_of_forms list) → FormKeeps netlist patterns mode (model_of_form form)
        → AreKeeping netlist patterns (Some mode) (models_of_forms (take (i + 1) forms)) (models_of_forms more)
    kept_next before keeps =
        subst (λ models. AreKeeping netlist patterns (Some mode) models (models_of_forms more)) (sym (next_forms forms i form lt is))
        (subst (AreKeeping netlist patterns (Some mode) (models_of_forms (take i forms) ++ model_of_form form ∷ [])) (sym pushed_forms)
        (kept_more netlist patterns (Some mode) (models_of_forms (take i forms)) (models_of_forms list) (model_of_form form) before keeps))

    pub low_next : AreLow (models_of_forms list) → IsLow (model_of_form form) → AreLow (models_of_forms more)
    low_next low own = subst AreLow (sym pushed_forms) (low_more (models_of_forms list) (model_of_form form) low own)

    pub reach_next : (reach now : ℕ) → reach ≡ greatest_reach (models_of_forms list) → now ≡ max reach (goal_reach (model_of_form form).goal) → now ≡ greatest_reach (models_of_forms more)
    reach_next reach now before told =
        let whole : greatest_reach (models_of_forms more) ≡ max (greatest_reach (models_of_forms list)) (goal_reach (model_of_form form).goal) =
        ap greatest_reach pushed_forms ∙ reach_more (models_of_forms list) (model_of_form form) in
        told ∙ ap (λ n. max n (goal_reach (model_of_form form).goal)) before ∙ sym whole
