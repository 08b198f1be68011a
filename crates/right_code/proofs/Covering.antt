-- Plans of jobs, one after the other.
use Rattle.std.proofs.Common.{◌≡◌, ℕ, zero, suc, ◌<◌, List, [], ◌∷◌, ◌++◌, take, length, Some, slice_get, refl, subst, ap, arith}
use Rattle.form_model.specs.Covers.{StockModel}
use Rattle.mode_set.specs.Costs.{HasNoPlan, IsPlanned, PlanModel, mode_cost}
use Rattle.src_trees.specs.Lowered.{JobModel}
use Rattle.right_code.specs.Covered.{AllPlanned, HasCover, IsFirstBare, plan_costs}

-- an element of a front part
taken_at : {X : Type 0} (xs : List X) (k i : ℕ) (x : X) → i < k → slice_get xs i ≡ Some x → slice_get (take k xs) i ≡ Some x
taken_at [] k i x lt at = absurd cc
taken_at (y ∷ xs) zero i x lt at = absurd (omega arith)
taken_at (y ∷ xs) (suc k) zero x lt at = at
taken_at (y ∷ xs) (suc k) (suc i) x lt at = taken_at xs k i x (omega arith) at

module _ (stock : ℕ → StockModel) (Usable : ℕ → Type 0) where
  -- one more job with its plan
  pub planned_more : (jobs : List JobModel) (plans : List PlanModel) (job : JobModel) (planned : PlanModel) → AllPlanned stock Usable jobs plans →
      IsPlanned stock Usable job.destination job.trees planned → AllPlanned stock Usable (jobs ++ job ∷ []) (plans ++ planned ∷ [])
  planned_more [] [] job planned h k = (k, tt)
  planned_more [] (c ∷ plans) job planned h k = absurd h
  planned_more (j ∷ jobs) [] job planned h k = absurd h
  planned_more (j ∷ jobs) (c ∷ plans) job planned h k = (h.0, planned_more jobs plans job planned h.1 k)

  pub costs_more : (jobs : List JobModel) (plans : List PlanModel) (job : JobModel) (planned : PlanModel) → AllPlanned stock Usable jobs plans →
      plan_costs (jobs ++ job ∷ []) (plans ++ planned ∷ []) ≡ plan_costs jobs plans ++ mode_cost planned.mode job.destination planned.choice.cover ∷ []
  costs_more [] [] job planned h = refl
  costs_more [] (c ∷ plans) job planned h = absurd h
  costs_more (j ∷ jobs) [] job planned h = absurd h
  costs_more (j ∷ jobs) (c ∷ plans) job planned h = ap (λ (l : List ℕ). mode_cost c.mode j.destination c.choice.cover ∷ l) (costs_more jobs plans job planned h.1)

  -- there are as many plans as jobs
  pub planned_length : (jobs : List JobModel) (plans : List PlanModel) → AllPlanned stock Usable jobs plans → length plans ≡ length jobs
  planned_length [] [] h = refl
  planned_length [] (c ∷ plans) h = absurd h
  planned_length (j ∷ jobs) [] h = absurd h
  planned_length (j ∷ jobs) (c ∷ plans) h = ap suc (planned_length jobs plans h.1)

  -- each of them has one
  pub covered_at : (jobs : List JobModel) (plans : List PlanModel) → AllPlanned stock Usable jobs plans → (k : ℕ) (job : JobModel) → slice_get jobs k ≡ Some job → HasCover stock Usable job
  covered_at [] [] h k job at = absurd cc
  covered_at [] (c ∷ plans) h k job at = absurd h
  covered_at (j ∷ jobs) [] h k job at = absurd h
  covered_at (j ∷ jobs) (c ∷ plans) h zero job at =
      let same : j ≡ job = cc in
      subst (HasCover stock Usable) same (record { mode = c.mode; choice = c.choice; covers = record { can = h.0.can; may = h.0.may; covers = h.0.chosen.covers } })
  covered_at (j ∷ jobs) (c ∷ plans) h (suc k) job at = covered_at jobs plans h.1 k job at

  -- where those before a job have plans and it has none, it is the first
  pub first_bare : (jobs : List JobModel) (k : ℕ) (job : JobModel) (plans : List PlanModel) → AllPlanned stock Usable (take k jobs) plans → slice_get jobs k ≡ Some job →
      HasNoPlan stock Usable job.destination job.trees → IsFirstBare stock Usable jobs k
  first_bare jobs k job plans h at none = record {
    job = job;
    at = at;
    none = none;
    earlier = λ i other lt there. covered_at (take k jobs) plans h i other (taken_at jobs k i other lt there);
  }
