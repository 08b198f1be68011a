-- What a list of steps passes, one step further.
use Rattle.std.proofs.Common.{◌≡◌, ℕ, zero, suc, ◌+◌, ◌-◌, ◌<◌, ◌≤◌, ◌||◌, nat_lt, Bool, true, false, IsTrue, if◌then◌else◌, List, ◌∷◌, length, slice_get, slice_set, option_copied, Bor, Option, Some, None, refl, sym, ap, ◌∙◌, subst, arith}
use Rattle.std.proofs.lemmas.Option.{slice_get_past}
use Rattle.std.proofs.lemmas.Bool.Decides.{nat_tests}
use Rattle.src_model.specs.declared.checkpoint.Checkpoint.TheVariants.{At}
use Rattle.src_model.specs.Ways.{Onward, pass, choose, finish}
use Rattle.src_eval.specs.declared.formula.Formula.{Formula}
use Rattle.src_eval.specs.declared.formula.Comparison.{Comparison}
use Rattle.src_eval.specs.declared.machine.Step.{Step}
use Rattle.src_eval.specs.declared.machine.Step.TheVariants.{Assign, Test}
use Rattle.src_eval.specs.Formulas.{formula_value, stored, met, FormulaFits, FitsComparison}
use Rattle.src_eval.specs.Steps.{act_at, go, ahead}
use Rattle.src_eval.specs.Inner.Steps.{is_test, FitsStep, StepsFit}

-- so many steps are enough to come to a checkpoint
abbrev pub need : List Step → ℕ → ℕ
need steps at = if is_test (slice_get steps at) then 1 else suc (length steps - at)

need_some : (b : Bool) (n : ℕ) → 1 ≤ (if b then 1 else suc n)
need_some true n = omega arith
need_some false n = omega arith

pub within : (steps : List Step) (at : ℕ) (s : Step) → slice_get steps at ≡ Some s → at < length steps
within steps at s is = by (nat_lt at (length steps)) refl
  where
    by : (b : Bool) → nat_lt at (length steps) ≡ b → at < length steps
    by true e = grind (arith, nat_tests, e)
    by false e = absurd (let le : length steps ≤ at = grind (arith, nat_tests, e) in let none : None ≡ Some s = sym (slice_get_past steps at le) ∙ is in cc none)

-- behind an assignment one step less is enough
pub need_next : (steps : List Step) (at next : ℕ) → at < length steps → IsTrue (nat_lt at next || is_test (slice_get steps next)) → need steps next ≤ length steps - at
need_next steps at next lt h = by (is_test (slice_get steps next)) (nat_lt at next) refl h
  where
    by : (b l : Bool) → nat_lt at next ≡ l → IsTrue (l || b) → (if b then 1 else suc (length steps - next)) ≤ length steps - at
    by true l e t = omega (arith, lt)
    by false true e t = (let k : at < next = grind (arith, nat_tests, e) in omega (arith, lt, k))
    by false false e t = absurd (cc t)

module _ (word : ℕ) (steps : List Step) (fits : StepsFit word steps) where
  pub need_here : (at : ℕ) (first : ℕ) (index value : Formula) (next : ℕ) → slice_get steps at ≡ Some (Assign first index value next) → need steps at ≡ suc (length steps - at)
  need_here at first index value next is = ap (λ (o : Option Step). if is_test o then 1 else suc (length steps - at)) is

  pub enough : (later : ℕ → Onward) (n n' at : ℕ) → need steps at ≤ n → need steps at ≤ n' → (m : ℕ) (cells : List ℕ) → go steps later n at m cells ≡ go steps later n' at m cells
  enough later zero n' at h k m cells = absurd (omega (arith, h, need_some (is_test (slice_get steps at)) (length steps - at)))
  enough later (suc n) zero at h k m cells = absurd (omega (arith, k, need_some (is_test (slice_get steps at)) (length steps - at)))
  enough later (suc n) (suc n') at h k m cells = by (enough later n n') (slice_get steps at) refl (fits at)
    where
      by : ((to : ℕ) → need steps to ≤ n → need steps to ≤ n' → (m : ℕ) (cells : List ℕ) → go steps later n to m cells ≡ go steps later n' to m cells)
          → (o : Option Step) → slice_get steps at ≡ o → FitsStep word steps at o → act_at o at (go steps later n) later m cells ≡ act_at o at (go steps later n') later m cells
      by more None is f = refl
      by more (Some (Test test on_true on_false)) is f = refl
      by more (Some (Assign first index value next)) is f =
          let lt = within steps at (Assign first index value next) is in
          let less = need_next steps at next lt f.2 in
          let here = need_here at first index value next is in
          more next (omega (arith, h, less, here)) (omega (arith, k, less, here)) m (stored first index value cells)

  pub over_assign : (at first : ℕ) (index value : Formula) (next : ℕ) → slice_get steps at ≡ Some (Assign first index value next) → (m : ℕ) (cells : List ℕ) → ahead steps m at cells ≡ ahead steps m next (stored first index value cells)
  unfolding ahead
  over_assign at first index value next is zero cells = refl
  over_assign at first index value next is (suc m) cells =
      let later : ℕ → Onward = λ next asked after. ahead steps m next after in
      let lt = within steps at (Assign first index value next) is in
      let f = fits at in
      let less = need_next steps at next lt (goes f) in
      ap (λ (o : Option Step). act_at o at (go steps later (length steps)) later (suc m) cells) is
      ∙ enough later (length steps) (suc (length steps)) next (omega (arith, less)) (omega (arith, less)) (suc m) (stored first index value cells)
    where
      goes : FitsStep word steps at (slice_get steps at) → IsTrue (nat_lt at next || is_test (slice_get steps next))
      goes f = (subst (FitsStep word steps at) is f).2

-- a test is a checkpoint, and then one of two ways
pub over_test : (steps : List Step) (at : ℕ) (test : Comparison) (on_true on_false : ℕ) → slice_get steps at ≡ Some (Test test on_true on_false) → (m : ℕ) (cells : List ℕ)
    → ahead steps m at cells ≡ pass (At at) (choose (met test) (λ asked after. ahead steps asked on_true after) (λ asked after. ahead steps asked on_false after)) m cells
unfolding ahead
over_test steps at test on_true on_false is zero cells = refl
over_test steps at test on_true on_false is (suc m) cells =
    let later : ℕ → Onward = λ next asked after. ahead steps m next after in
    ap (λ (o : Option Step). act_at o at (go steps later (length steps)) later (suc m) cells) is

-- past the last step is the end
pub over_end : (steps : List Step) (at : ℕ) → slice_get steps at ≡ None → (m : ℕ) (cells : List ℕ) → ahead steps m at cells ≡ finish m cells
unfolding ahead
over_end steps at is zero cells = refl
over_end steps at is (suc m) cells =
    let later : ℕ → Onward = λ next asked after. ahead steps m next after in
    ap (λ (o : Option Step). act_at o at (go steps later (length steps)) later (suc m) cells) is

-- the test's checkpoint, and one of the two ways
pub over_true : (steps : List Step) (at : ℕ) (test : Comparison) (on_true on_false : ℕ) → slice_get steps at ≡ Some (Test test on_true on_false) → (m : ℕ) (cells : List ℕ) → met test cells ≡ true
    → ahead steps (suc m) at cells ≡ record { label = At at; cells = cells } ∷ ahead steps m on_true cells
over_true steps at test on_true on_false is m cells h =
    over_test steps at test on_true on_false is (suc m) cells
    ∙ ap (λ (b : Bool). record { label = At at; cells = cells } ∷ (if b then ahead steps m on_true cells else ahead steps m on_false cells)) h

pub over_false : (steps : List Step) (at : ℕ) (test : Comparison) (on_true on_false : ℕ) → slice_get steps at ≡ Some (Test test on_true on_false) → (m : ℕ) (cells : List ℕ) → met test cells ≡ false
    → ahead steps (suc m) at cells ≡ record { label = At at; cells = cells } ∷ ahead steps m on_false cells
over_false steps at test on_true on_false is m cells h =
    over_test steps at test on_true on_false is (suc m) cells
    ∙ ap (λ (b : Bool). record { label = At at; cells = cells } ∷ (if b then ahead steps m on_true cells else ahead steps m on_false cells)) h

-- a run before an assignment
pub need_less : (word : ℕ) (steps : List Step) → StepsFit word steps → (at first : ℕ) (index value : Formula) (next : ℕ) → slice_get steps at ≡ Some (Assign first index value next) → need steps next < need steps at
need_less word steps fits at first index value next is =
    let lt = within steps at (Assign first index value next) is in
    let f : FitsStep word steps at (Some (Assign first index value next)) = subst (FitsStep word steps at) is (fits at) in
    let less = need_next steps at next lt f.2 in
    let here = need_here word steps fits at first index value next is in
    omega (arith, less, here)

-- the step that a look-up finds
pub found : (steps : List Step) (at : ℕ) (o : Option (Bor Step)) (b : Bor Step) (s : Step) → option_copied o ≡ slice_get steps at → o ≡ Some b → b.now ≡ s → slice_get steps at ≡ Some s
found steps at o b s copied is was = sym copied ∙ ap option_copied is ∙ ap (λ (x : Step). Some x) was

pub missing : (steps : List Step) (at : ℕ) (o : Option (Bor Step)) → option_copied o ≡ slice_get steps at → o ≡ None → slice_get steps at ≡ None
missing steps at o copied is = sym copied ∙ ap option_copied is

-- a run at a test
pub over_choice : (steps : List Step) (at : ℕ) (test : Comparison) (on_true on_false : ℕ) → slice_get steps at ≡ Some (Test test on_true on_false) → (m : ℕ) (cells : List ℕ)
    → ahead steps (suc m) at cells ≡ record { label = At at; cells = cells } ∷ ahead steps m (if met test cells then on_true else on_false) cells
over_choice steps at test on_true on_false is m cells = by (met test cells) refl
  where
    by : (b : Bool) → met test cells ≡ b → ahead steps (suc m) at cells ≡ record { label = At at; cells = cells } ∷ ahead steps m (if b then on_true else on_false) cells
    by true e = over_true steps at test on_true on_false is m cells e
    by false e = over_false steps at test on_true on_false is m cells e

-- what is kept of an assignment, and of a test
pub assign_fits : (word : ℕ) (steps : List Step) → StepsFit word steps → (at first : ℕ) (index value : Formula) (next : ℕ) → slice_get steps at ≡ Some (Assign first index value next) → FormulaFits word word index × FormulaFits word word value
assign_fits word steps fits at first index value next is =
    let f : FitsStep word steps at (Some (Assign first index value next)) = subst (FitsStep word steps at) is (fits at) in
    (f.0, f.1)

pub test_fits : (word : ℕ) (steps : List Step) → StepsFit word steps → (at : ℕ) (test : Comparison) (on_true on_false : ℕ) → slice_get steps at ≡ Some (Test test on_true on_false) → FitsComparison word test
test_fits word steps fits at test on_true on_false is = subst (FitsStep word steps at) is (fits at)

-- what is put into a cell, found in the store as it is seen
pub stored_is : (after cells seen : List ℕ) (first : ℕ) (index value : Formula) (offset n : ℕ) → after ≡ slice_set cells (first + offset) n → offset ≡ formula_value seen index → n ≡ formula_value seen value → seen ≡ cells → after ≡ stored first index value cells
stored_is after cells seen first index value offset n is o v same =
    let o' = o ∙ ap (λ (cs : List ℕ). formula_value cs index) same in
    let v' = v ∙ ap (λ (cs : List ℕ). formula_value cs value) same in
    is ∙ (λ j. slice_set cells (first + o' j) (v' j))
