-- The modes and the covers of a program's jobs, and the first job that has none. Each job has its
-- plan; the costs of the plans, each with its tree's number; the first job that has none, as it
-- has no cover in any mode in which it may run.
use Rattle.std.specs.Prelude.{ℕ, ◌+◌, ◌<◌, ◌≡◌, List, [], ◌∷◌, Some, slice_get}
use Rattle.form_model.specs.Covers.{JobCoverModel, StockModel}
use Rattle.mode_set.specs.Costs.{CoversIn, HasNoPlan, IsPlanned, PlanModel, mode_cost}
use Rattle.mode_set.specs.Keeping.{Isas, IsUsable}
use Rattle.src_trees.specs.Lowered.{JobModel}
use Rattle.right_code.specs.Tasks.{Task, task_stock, task_jobs}

-- ---- all jobs have covers

-- each job has the least mode of least cost of those that can be used, and the cover that is chosen
-- by that mode's forms
abbrev pub AllPlanned : (ℕ → StockModel) → (ℕ → Type 0) → List JobModel → List PlanModel → Type 0
AllPlanned stock Usable [] [] = Unit {0}
AllPlanned stock Usable (job ∷ jobs) (planned ∷ plans) =
    IsPlanned stock Usable job.destination job.trees planned × AllPlanned stock Usable jobs plans
AllPlanned stock Usable _ _ = ⊥

-- the costs of the jobs in their modes
abbrev pub plan_costs : List JobModel → List PlanModel → List ℕ
plan_costs (job ∷ jobs) (planned ∷ plans) =
    mode_cost planned.mode job.destination planned.choice.cover ∷ plan_costs jobs plans
plan_costs _ _ = []

-- each with its number, from one on
abbrev pub numbered : ℕ → List ℕ → List (ℕ × ℕ)
numbered number [] = []
numbered number (cost ∷ costs) = (number, cost) ∷ numbered (number + 1) costs

-- what a task's jobs are covered by in a mode: the forms that keep the mode
abbrev pub mode_stock : (task : Task) → Isas task.netlist → ℕ → StockModel
mode_stock task isas = λ v. task_stock (isas v).keeping task

-- the plans of a program's jobs
abbrev pub ArePlans : (task : Task) → Isas task.netlist → List PlanModel → Type 0
ArePlans task isas plans = AllPlanned (mode_stock task isas) (IsUsable task.netlist isas) (task_jobs task) plans

-- the least costs of a program's jobs, each with its number, in their order
pub record AreCosts (task : Task) (costs : List (ℕ × ℕ)) : Type 0 where
  pub isas : Isas task.netlist
  pub plans : List PlanModel
  pub planned : ArePlans task isas plans
  pub are : costs ≡ numbered 0 (plan_costs (task_jobs task) plans)

-- ---- a job has none

pub record HasCover (stock : ℕ → StockModel) (Usable : ℕ → Type 0) (job : JobModel) : Type 0 where
  pub mode : ℕ
  pub choice : JobCoverModel
  pub covers : CoversIn stock Usable job.destination job.trees mode choice

-- the job of this number has no orderly cover in any mode that it may run in, and each job before it
-- has one
pub record IsFirstBare (stock : ℕ → StockModel) (Usable : ℕ → Type 0) (jobs : List JobModel)
    (number : ℕ) : Type 0 where
  pub job : JobModel
  pub at : slice_get jobs number ≡ Some job
  pub none : HasNoPlan stock Usable job.destination job.trees
  pub earlier : (k : ℕ) (other : JobModel) → k < number → slice_get jobs k ≡ Some other → HasCover stock Usable other

-- the tree of this number is the first of the program's that the netlist's forms don't cover
pub record HasBareTree (number : ℕ) (task : Task) : Type 0 where
  pub isas : Isas task.netlist
  pub bare : IsFirstBare (mode_stock task isas) (IsUsable task.netlist isas) (task_jobs task) number

-- the netlist's forms cover each tree of the program
pub record HasCovers (task : Task) : Type 0 where
  pub costs : List (ℕ × ℕ)
  pub are : AreCosts task costs
