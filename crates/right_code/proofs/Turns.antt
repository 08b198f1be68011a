-- The jump and branch forms of a netlist are as the layout wants them.
use Rattle.std.proofs.Common.{◌≡◌, ℕ, zero, suc, ◌<◌, ◌≤◌, ◌^◌, ◌==◌, max, Bool, true, false, if◌then◌else◌, List, [], ◌∷◌, Some, slice_get, refl, sym, ◌∙◌, ap, subst, arith, eqb-true}
use Rattle.std.proofs.lemmas.Bool.{true≢false, eqb-false}
use Rattle.rec_bits.proofs.Options.{same_Some}
use Rattle.net_model.specs.declared.hardware.Netlist.{Netlist}
use Rattle.net_model.specs.CheckedRules.{KeepsRules}
use Rattle.net_model.specs.Nets.{counter_width, memory_id, word_width}
use Rattle.net_model.specs.Patterns.{IsPattern, Pattern}
use Rattle.form_model.specs.Forms.{TargetModel, absolute, relative, GoalModel, FormModel, into_file, into_memory, into_reg, jumps, branches}
use Rattle.form_set.specs.Static.{is_file_at}
use Rattle.form_model.specs.Shapes.{reach_of, shows}
use Rattle.form_set.specs.Listing.{AreForms, goal_at, goal_reach, greatest_reach}
use Rattle.form_set.specs.Words.{CanJump}
use Rattle.form_set.specs.Promises.{IsFormOf, is_control_goal, of_branch, of_jump, of_plain}
use Rattle.branch_fix.specs.Items.{jump_form, reaches}
use Rattle.right_code.specs.Inner.Forks.{IsBranchForm, IsJumpForm}
use Rattle.right_code.proofs.Kept.{ArePart}
use Rattle.right_code.specs.Inner.Known.{AreKnown}
use Rattle.right_code.specs.Inner.Laid.{AreTurns, TargetReaches}
use Rattle.right_code.proofs.Listed.{placed}
use Rattle.right_code.proofs.Turning.{branch_made, branch_reaches, jump_made, jump_narrow, jump_shows}

-- the first jump form of a reach
pub record IsFirstJump (forms : List FormModel) (reach : ℕ) : Type 0 where
  pub form : FormModel
  pub first : jump_form forms reach ≡ Some form
  pub place : ℕ
  pub at : slice_get forms place ≡ Some form
  pub goal : form.goal ≡ jumps reach

reached : (k : GoalModel) (reach : ℕ) → reaches k reach ≡ true → k ≡ jumps reach
reached (jumps r) reach e = ap jumps (eqb-true r reach e)
reached (into_reg id) reach e = absurd (cc)
reached into_memory reach e = absurd (cc)
reached into_file reach e = absurd (cc)
reached (branches b to) reach e = absurd (cc)

unreached : (k : GoalModel) (reach : ℕ) → 1 ≤ reach → reaches k reach ≡ false → goal_reach k ≡ reach → ⊥
unreached (jumps r) reach l e g = eqb-false r reach e g
unreached (into_reg id) reach l e g = omega (arith, l, g)
unreached into_memory reach l e g = omega (arith, l, g)
unreached into_file reach l e g = omega (arith, l, g)
unreached (branches b to) reach l e g = omega (arith, l, g)

pub first_jump : (forms : List FormModel) (reach : ℕ) → 1 ≤ reach → reach ≡ greatest_reach forms → IsFirstJump forms reach
first_jump [] reach l e = absurd (omega (arith, l, e))
first_jump (form ∷ forms) reach l e = by (reaches form.goal reach) refl (first_jump forms reach l)
  where
    greater : (m n r : ℕ) → r ≡ max m n → (m ≡ r → ⊥) → r ≡ n
    greater m n r e h = elim_cases (m == r) refl
      where
        elim_cases : (b : Bool) → (m == r) ≡ b → r ≡ n
        elim_cases true q = absurd (h (eqb-true m r q))
        elim_cases false q = let d = eqb-false m r q in omega (arith, e, d)

    by : (b : Bool) → reaches form.goal reach ≡ b → (reach ≡ greatest_reach forms → IsFirstJump forms reach) → IsFirstJump (form ∷ forms) reach
    by true q later = record { form = form; first = ap (λ b. if b then Some form else jump_form forms reach) q; place = zero; at = refl; goal = reached form.goal reach q }
    by false q later =
        (let f = later (greater (goal_reach form.goal) (greatest_reach forms) reach e (unreached form.goal reach l q)) in
        record { form = f.form; first = ap (λ b. if b then Some form else jump_form forms reach) q ∙ f.first; place = suc f.place; at = f.at; goal = f.goal })

-- a plain form is none of the two
plain_goal : (netlist : Netlist) (storage : ℕ) (k : GoalModel) → k ≡ goal_at netlist storage → is_control_goal k ≡ true → ⊥
plain_goal netlist storage k e h = true≢false (sym h ∙ ap is_control_goal e ∙ by (storage == memory_id netlist.storages) (is_file_at netlist storage))
  where
    by : (b c : Bool) → is_control_goal (if b then into_memory else if c then into_file else into_reg storage) ≡ false
    by true c = refl
    by false true = refl
    by false false = refl

module _ (netlist : Netlist) (order : List ℕ) (keeps : KeepsRules netlist order) (some : 0 < word_width netlist) (patterns : List Pattern) (known : AreKnown netlist patterns) (reach : ℕ) (all : List FormModel) (forms : AreForms netlist patterns all reach) where
  record IsJumping (far : ℕ) (jump : FormModel) : Type 0 where
    form : IsJumpForm netlist patterns jump
    shown : (v : ℕ) → v < far → shows jump.value v ≡ true
    narrow : far ≤ 2 ^ counter_width netlist

  jumping : (far number : ℕ) (p : Pattern) (jump : FormModel) → slice_get patterns number ≡ Some p → IsFormOf netlist reach number p jump → jump.goal ≡ jumps far → IsJumping far jump
  jumping far number p jump at (of_plain choice clobbers plain are e) g =
      absurd (plain_goal netlist p.storage jump.goal (ap (λ (r : FormModel). r.goal) e) (ap is_control_goal g))
  jumping far number p jump at (of_jump h e) g =
      subst (IsJumping far) (sym e)
      (record {
        form = jump_made netlist some patterns known number p at h _;
        shown = λ v lt. jump_shows netlist some patterns known number p at h v (omega (arith, lt, is_reach));
        narrow = let n = jump_narrow netlist order keeps some patterns known number p at h in omega (arith, n, is_reach);
      })
    where
      same : (a b : ℕ) → jumps a ≡ jumps b → a ≡ b
      same a b e = cc

      is_reach : reach_of h.target ≡ far
      is_reach = same (reach_of h.target) far (sym (ap (λ (r : FormModel). r.goal) e) ∙ g)
  jumping far number p jump at (of_branch choice parts b e) g = let x : branches parts.when_one parts.to ≡ jumps far = sym (ap (λ (r : FormModel). r.goal) e) ∙ g in absurd (cc)

  record IsTurning (branch : FormModel) (when_one : Bool) (way : TargetModel) : Type 0 where
    form : IsBranchForm netlist patterns branch when_one way
    reached : TargetReaches reach way

  turning : (number : ℕ) (p : Pattern) (branch : FormModel) (when_one : Bool) (way : TargetModel) → slice_get patterns number ≡ Some p → IsFormOf netlist reach number p branch → branch.goal ≡ branches when_one way → IsTurning branch when_one way
  turning number p branch when_one way at (of_plain choice clobbers plain are e) g =
      absurd (plain_goal netlist p.storage branch.goal (ap (λ (r : FormModel). r.goal) e) (ap is_control_goal g))
  turning number p branch when_one way at (of_jump h e) g = let x : jumps _ ≡ branches when_one way = sym (ap (λ (r : FormModel). r.goal) e) ∙ g in absurd (cc)
  turning number p branch when_one way at (of_branch choice parts b e) g =
      let s = same parts.when_one when_one parts.to way (sym (ap (λ (r : FormModel). r.goal) e) ∙ g) in
      subst (λ w. IsTurning branch w way) s.0
      (subst (λ w. IsTurning branch parts.when_one w) s.1
      (subst (λ (r : FormModel). IsTurning r parts.when_one parts.to) (sym e)
      (record { form = branch_made netlist some patterns known reach number p at parts b choice; reached = branch_reaches netlist some patterns known reach number p at parts b })))
    where
      same : (a b : Bool) (c d : TargetModel) → branches a c ≡ branches b d → (a ≡ b) × (c ≡ d)
      same a b c d e = (cc, cc)

  -- a form that branches is made of its pattern
  pub fork_form : (k : ℕ) (turn : FormModel) (when_one : Bool) (way : TargetModel) → slice_get all k ≡ Some turn → turn.goal ≡ branches when_one way → IsBranchForm netlist patterns turn when_one way
  fork_form k turn when_one way at g =
      let r = placed netlist order keeps some patterns known reach all forms.list k turn at in
      (turning r.number r.pattern turn when_one way r.at r.of g).form

  reach_in : (list : List FormModel) (k : ℕ) (form : FormModel) → slice_get list k ≡ Some form → goal_reach form.goal ≤ greatest_reach list
  reach_in [] k form e = absurd (cc e)
  reach_in (x ∷ list) zero form e = let same : goal_reach x.goal ≡ goal_reach form.goal = ap (λ (r : FormModel). goal_reach r.goal) (same_Some x form e) in omega (arith, same)
  reach_in (x ∷ list) (suc k) form e = let h = reach_in list k form e in omega (arith, h)

  less_reaches : (way : TargetModel) (far : ℕ) → far ≤ reach → TargetReaches reach way → TargetReaches far way
  less_reaches (absolute shape) far le h = λ v lt. h v (omega (arith, lt, le))
  less_reaches (relative shape) far le h = h

  -- some of the forms, among them a jump form
  pub turns_of : (kept : List FormModel) (far : ℕ) → ArePart kept all → far ≡ greatest_reach kept → 1 ≤ far → AreTurns netlist patterns kept far
  turns_of kept far of is l =
      let f = first_jump kept far l is in
      let p = of f.place f.form f.at in
      let q = placed netlist order keeps some patterns known reach all forms.list p.0 f.form p.1 in
      let j : IsJumping far f.form = jumping far q.number q.pattern f.form q.at q.of f.goal in
      let most : goal_reach f.form.goal ≤ greatest_reach all = reach_in all p.0 f.form p.1 in
      let own : goal_reach f.form.goal ≡ far = ap goal_reach f.goal in
      let bound : reach ≡ greatest_reach all = forms.greatest_is in
      let le : far ≤ reach = omega (arith, most, own, bound) in
      record {
        form = f.form;
        first = f.first;
        jump = j.form;
        shown = j.shown;
        narrow = j.narrow;
        forks = λ k turn when_one way at g. (let r = of k turn at in fork_form r.0 turn when_one way r.1 g);
        reaches = λ k turn when_one way at g.
            (let r = of k turn at in
            let x = placed netlist order keeps some patterns known reach all forms.list r.0 turn r.1 in
            less_reaches way far le (turning x.number x.pattern turn when_one way x.at x.of g).reached);
      }

  -- all of them
  pub are_turns : 1 ≤ reach → AreTurns netlist patterns all reach
  are_turns l = turns_of all reach (λ k form at. (k, at)) forms.greatest_is l

  -- ---- words of jumps and branches

  -- the form's pattern has a word for each setting
  pub record CanTurn (form : FormModel) : Type 0 where
    pub pattern : Pattern
    pub at : slice_get patterns form.pattern ≡ Some pattern
    pub is : IsPattern netlist pattern
    pub can : CanJump netlist pattern

  can_turn : (number : ℕ) (p : Pattern) (form : FormModel) → slice_get patterns number ≡ Some p → IsFormOf netlist reach number p form → is_control_goal form.goal ≡ true → CanTurn form
  can_turn number p form at (of_plain choice clobbers plain are e) g = absurd (plain_goal netlist p.storage form.goal (ap (λ (r : FormModel). r.goal) e) g)
  can_turn number p form at (of_jump h e) g = record { pattern = p; at = ap (λ (r : FormModel). slice_get patterns r.pattern) e ∙ at; is = (known number p at).is; can = h.can }
  can_turn number p form at (of_branch choice parts b e) g = record { pattern = p; at = ap (λ (r : FormModel). slice_get patterns r.pattern) e ∙ at; is = (known number p at).is; can = b.can }

  pub turn_can : (k : ℕ) (form : FormModel) → slice_get all k ≡ Some form → is_control_goal form.goal ≡ true → CanTurn form
  turn_can k form at g = let r = placed netlist order keeps some patterns known reach all forms.list k form at in can_turn r.number r.pattern form r.at r.of g
