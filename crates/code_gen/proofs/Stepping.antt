-- The steps of a block's jobs, each by the forms of its own mode, and how long a block is.
use Rattle.std.proofs.Common.{◌≡◌, ℕ, zero, suc, ◌+◌, ◌-◌, ◌<◌, ◌≤◌, true, false, List, [], ◌∷◌, ◌++◌, Option, Some, None, length, slice_get, refl, sym, ap, subst, ◌∙◌, add-one, append-nil, append_assoc, arith, length-append}
use Rattle.std.proofs.lemmas.Option.{slice_get_past}
use Rattle.net_model.specs.Exprs.{ExprModel}
use Rattle.form_model.specs.Covers.{StockModel}
use Rattle.form_model.specs.Steps.{cover_steps}
use Rattle.form_model.specs.declared.flow.Flow.{Flow}
use Rattle.form_model.specs.declared.flow.Flow.TheVariants.{Assign, Test, Jump, End}
use Rattle.form_model.specs.declared.forms.Step.{Step}
use Rattle.src_trees.specs.Blocks.{IsAssignBlock, continues, is_assign, job_at, job_list, jobs_at}
use Rattle.src_trees.specs.Lowered.{JobModel}
use Rattle.mode_set.specs.Costs.{IsPlanned, PlanModel}
use Rattle.right_code.specs.Covered.{AllPlanned}
use Rattle.right_code.specs.Cuts.{plan_at, plans_at, plans_of}
use Rattle.right_code.specs.Jobs.{job_steps, tree_or_none}
use Rattle.right_code.proofs.Fitting.{assign_there}
use Rattle.code_gen.specs.Inner.Planning.{steps_in}

-- ---- plans that go with jobs

module _ (stock : ℕ → StockModel) (Usable : ℕ → Type 0) where
  -- the plan of a job
  pub planned_at : (jobs : List JobModel) (plans : List PlanModel) (k : ℕ) (job : JobModel) (planned : PlanModel) → AllPlanned stock Usable jobs plans → slice_get jobs k ≡ Some job → slice_get plans k ≡ Some planned
      → IsPlanned stock Usable job.destination job.trees planned
  planned_at [] plans k job planned all e f = absurd (cc)
  planned_at (w ∷ jobs) [] k job planned all e f = absurd all
  planned_at (w ∷ jobs) (x ∷ plans) zero job planned all e f =
      let same : w ≡ job = cc in
      let also : x ≡ planned = cc in
      subst (λ (j : JobModel). IsPlanned stock Usable j.destination j.trees planned) same (subst (λ y. IsPlanned stock Usable w.destination w.trees y) also all.0)
  planned_at (w ∷ jobs) (x ∷ plans) (suc k) job planned all e f = planned_at jobs plans k job planned all.1 e f

  pub plan_there : (jobs : List JobModel) (plans : List PlanModel) (k : ℕ) (job : JobModel) → AllPlanned stock Usable jobs plans → slice_get jobs k ≡ Some job → (planned : PlanModel) × (slice_get plans k ≡ Some planned)
  plan_there [] plans k job all e = absurd (cc)
  plan_there (w ∷ jobs) [] k job all e = absurd all
  plan_there (w ∷ jobs) (x ∷ plans) zero job all e = (x, refl)
  plan_there (w ∷ jobs) (x ∷ plans) (suc k) job all e = plan_there jobs plans k job all.1 e

  pub job_there : (jobs : List JobModel) (plans : List PlanModel) (k : ℕ) (planned : PlanModel) → AllPlanned stock Usable jobs plans → slice_get plans k ≡ Some planned → (job : JobModel) × (slice_get jobs k ≡ Some job)
  job_there [] [] k planned all e = absurd (cc)
  job_there [] (x ∷ plans) k planned all e = absurd all
  job_there (w ∷ jobs) [] k planned all e = absurd all
  job_there (w ∷ jobs) (x ∷ plans) zero planned all e = (w, refl)
  job_there (w ∷ jobs) (x ∷ plans) (suc k) planned all e = job_there jobs plans k planned all.1 e

-- ---- one job

module _ (stock : ℕ → StockModel) where
  no_plans : (jobs : List JobModel) → steps_in stock jobs [] ≡ []
  no_plans [] = refl
  no_plans (job ∷ jobs) = refl

  -- no job of this number, or no plan
  pub jobless : (jobs : List JobModel) (plans : List PlanModel) (tree : ℕ) (steps : List Step) → length jobs ≤ tree
      → steps ≡ steps ++ steps_in stock (job_list (slice_get jobs tree)) (plans_of (slice_get plans tree))
  jobless jobs plans tree steps le =
      sym (append-nil steps) ∙ ap (λ (o : Option JobModel). steps ++ steps_in stock (job_list o) (plans_of (slice_get plans tree))) (sym (slice_get_past jobs tree le))

  pub planless : (jobs : List JobModel) (plans : List PlanModel) (tree : ℕ) (steps : List Step) → length plans ≤ tree
      → steps ≡ steps ++ steps_in stock (job_list (slice_get jobs tree)) (plans_of (slice_get plans tree))
  planless jobs plans tree steps le =
      sym (append-nil steps)
      ∙ ap (λ (more : List Step). steps ++ more) (sym (no_plans (job_list (slice_get jobs tree))))
      ∙ ap (λ (o : Option PlanModel). steps ++ steps_in stock (job_list (slice_get jobs tree)) (plans_of o)) (sym (slice_get_past plans tree le))

  -- the steps of the cover of a job
  pub covered_steps : (jobs : List JobModel) (plans : List PlanModel) (k : ℕ) (job : JobModel) (planned : PlanModel) (tree : ExprModel) (steps : List Step) → slice_get jobs k ≡ Some job → slice_get plans k ≡ Some planned
      → slice_get job.trees planned.choice.which ≡ Some tree → steps ≡ cover_steps (stock planned.mode) job.destination tree planned.choice.cover
      → steps ≡ steps_in stock (job_list (slice_get jobs k)) (plans_of (slice_get plans k))
  covered_steps jobs plans k job planned tree steps has covers used are =
      are ∙ ap (λ (o : Option ExprModel). cover_steps (stock planned.mode) job.destination (tree_or_none o) planned.choice.cover) (sym used)
      ∙ sym (append-nil (job_steps (stock planned.mode) job planned.choice))
      ∙ ap (λ (o : Option JobModel). steps_in stock (job_list o) (planned ∷ [])) (sym has)
      ∙ ap (λ (o : Option PlanModel). steps_in stock (job_list (slice_get jobs k)) (plans_of o)) (sym covers)

  -- where no assignment stands there are no steps
  pub placeless : (jobs : List JobModel) (plans : List PlanModel) (flow : List Flow) (at : ℕ) (steps : List Step) → length flow ≤ at
      → steps ≡ steps ++ steps_in stock (job_at jobs (slice_get flow at)) (plan_at plans (slice_get flow at))
  placeless jobs plans flow at steps le =
      sym (append-nil steps) ∙ ap (λ (o : Option Flow). steps ++ steps_in stock (job_at jobs o) (plan_at plans o)) (sym (slice_get_past flow at le))

  pub unassigned : (jobs : List JobModel) (plans : List PlanModel) (o : Option Flow) (f : Flow) (steps : List Step) → o ≡ Some f → ((tree : ℕ) → f ≡ Assign tree → ⊥)
      → steps ≡ steps ++ steps_in stock (job_at jobs o) (plan_at plans o)
  unassigned jobs plans o f steps at none = by f none ∙ ap (λ (p : Option Flow). steps ++ steps_in stock (job_at jobs p) (plan_at plans p)) (sym at)
    where
      by : (g : Flow) → ((tree : ℕ) → g ≡ Assign tree → ⊥) → steps ≡ steps ++ steps_in stock (job_at jobs (Some g)) (plan_at plans (Some g))
      by (Assign tree) no_tree = absurd (no_tree tree refl)
      by (Test tree one none) no_tree = sym (append-nil steps)
      by (Jump to) no_tree = sym (append-nil steps)
      by End no_tree = sym (append-nil steps)

  -- ---- one place more

  steps_on : (xs ys : List JobModel) (ps qs : List PlanModel) → length ps ≡ length xs → steps_in stock (xs ++ ys) (ps ++ qs) ≡ steps_in stock xs ps ++ steps_in stock ys qs
  steps_on [] ys [] qs e = refl
  steps_on [] ys (p ∷ ps) qs e = absurd (omega arith)
  steps_on (x ∷ xs) ys [] qs e = absurd (omega arith)
  steps_on (x ∷ xs) ys (p ∷ ps) qs e =
      ap (λ (more : List Step). job_steps (stock p.mode) x p.choice ++ more) (steps_on xs ys ps qs (omega arith))
      ∙ sym (append_assoc (job_steps (stock p.mode) x p.choice) (steps_in stock xs ps) (steps_in stock ys qs))

even_at : (jobs : List JobModel) (plans : List PlanModel) (k : ℕ) → length plans ≡ length jobs → length (plans_of (slice_get plans k)) ≡ length (job_list (slice_get jobs k))
even_at [] [] k e = refl
even_at [] (p ∷ plans) k e = absurd (omega arith)
even_at (x ∷ jobs) [] k e = absurd (omega arith)
even_at (x ∷ jobs) (p ∷ plans) zero e = refl
even_at (x ∷ jobs) (p ∷ plans) (suc k) e = even_at jobs plans k (omega arith)

module _ (jobs : List JobModel) (plans : List PlanModel) (even : length plans ≡ length jobs) where
  pub even_place : (o : Option Flow) → length (plan_at plans o) ≡ length (job_at jobs o)
  even_place None = refl
  even_place (Some (Assign tree)) = even_at jobs plans tree even
  even_place (Some (Test tree one none)) = refl
  even_place (Some (Jump to)) = refl
  even_place (Some End) = refl

  pub even_places : (flow : List Flow) (at n : ℕ) → length (plans_at flow plans at n) ≡ length (jobs_at flow jobs at n)
  even_places flow at zero = refl
  even_places flow at (suc n) =
      let here = even_place (slice_get flow (at + n)) in
      let before = even_places flow at n in
      length-append (plans_at flow plans at n) (plan_at plans (slice_get flow (at + n)))
      ∙ (λ i. before i + here i)
      ∙ sym (length-append (jobs_at flow jobs at n) (job_at jobs (slice_get flow (at + n))))

  pub place_more : (stock : ℕ → StockModel) (flow : List Flow) (at n : ℕ) (old new : List Step) → old ≡ steps_in stock (jobs_at flow jobs at n) (plans_at flow plans at n)
      → new ≡ old ++ steps_in stock (job_at jobs (slice_get flow (at + n))) (plan_at plans (slice_get flow (at + n)))
      → new ≡ steps_in stock (jobs_at flow jobs at (n + 1)) (plans_at flow plans at (n + 1))
  place_more stock flow at n old new before more =
      more
      ∙ ap (λ (steps : List Step). steps ++ steps_in stock (job_at jobs (slice_get flow (at + n))) (plan_at plans (slice_get flow (at + n)))) before
      ∙ sym (steps_on stock (jobs_at flow jobs at n) (job_at jobs (slice_get flow (at + n))) (plans_at flow plans at n) (plan_at plans (slice_get flow (at + n))) (even_places flow at n))
      ∙ ap (λ (k : ℕ). steps_in stock (jobs_at flow jobs at k) (plans_at flow plans at k)) (sym (add-one n))

-- ---- blocks

pub block_here : (flow : List Flow) (at behind : ℕ) → at < behind → continues flow at ≡ false → is_assign (slice_get flow at) ≡ true → ((k : ℕ) → at < k → k < behind → continues flow k ≡ true)
    → continues flow behind ≡ false → IsAssignBlock flow at (behind - at)
block_here flow at behind lt begins assigns inner last =
    record {
      some = omega arith;
      assigns = each;
      first = begins;
      inner = λ k less more. inner (at + k) (omega arith) (omega arith);
      last = subst (λ (k : ℕ). continues flow k ≡ false) (let z : behind ≡ at + (behind - at) = omega arith in z) last;
    }
  where
    each : (k : ℕ) → k < behind - at → is_assign (slice_get flow (at + k)) ≡ true
    each zero less = subst (λ (k : ℕ). is_assign (slice_get flow k) ≡ true) (let z : at ≡ at + 0 = omega arith in z) assigns
    each (suc k) less = assign_there flow (at + suc k) (inner (at + suc k) (omega arith) (omega arith))
