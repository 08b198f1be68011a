-- That nothing is lost: a job in another spelling has a plan, which costs less than one of the job's
-- own trees, where these have one.
use Rattle.std.specs.Prelude.{ℕ, ◌<◌, ◌≡◌, ◌⊎◌, Bool, false, List, length, Option, Some, None, slice_get}
use Rattle.form_model.specs.Covers.{StockModel}
use Rattle.form_model.specs.declared.trees.Job.{Job}
use Rattle.mode_set.specs.Costs.{HasNoPlan, IsPlanned, PlanModel, mode_cost}
use Rattle.src_trees.specs.Jobs.{model_of_job}
use Rattle.src_trees.specs.Lowered.{JobModel}
use Rattle.src_trees.specs.Measures.{IsSmall}
use Rattle.src_trees.specs.Turned.{Turns}
use Rattle.respell.specs.Respelled.{IsRespelled}
use Rattle.respell.specs.declared.jobs.Respelled.{Respelled}
use Rattle.respell.specs.declared.jobs.Respelled.TheVariants.{Kept, Changed}

-- the job has a plan of this cost
pub record HasCost (stock : ℕ → StockModel) (Usable : ℕ → Type 0) (job : JobModel) (cost : ℕ) : Type 0 where
  pub planned : PlanModel
  pub is : IsPlanned stock Usable job.destination job.trees planned
  pub costs : cost ≡ mode_cost planned.mode job.destination planned.choice.cover

-- what a job costs in its mode, or that it has no plan
abbrev pub IsPrice : (ℕ → StockModel) → (ℕ → Type 0) → JobModel → Option ℕ → Type 0
IsPrice stock Usable job (Some cost) = HasCost stock Usable job cost
IsPrice stock Usable job None = HasNoPlan stock Usable job.destination job.trees

-- a job in place of another: respelled, with temporary cells for its trees, which are not too large,
-- and with a plan that costs less than any of the other's
pub record IsGain (stock : ℕ → StockModel) (Usable : ℕ → Type 0) (width temps nodes : ℕ) (turned : Bool)
    (old new : JobModel) : Type 0 where
  pub respelled : IsRespelled width turned old new
  pub small : IsSmall width temps nodes new
  pub cost : ℕ
  pub costs : HasCost stock Usable new cost
  pub less : (other : ℕ) → HasCost stock Usable old other → cost < other

-- the job's own spelling, or another
abbrev pub IsAnswer : (ℕ → StockModel) → (ℕ → Type 0) → (width temps nodes : ℕ) → Job → Respelled → Type 0
IsAnswer stock Usable width temps nodes job Kept = Unit {0}
IsAnswer stock Usable width temps nodes job (Changed other turned) =
    IsGain stock Usable width temps nodes turned (model_of_job job) (model_of_job other)

-- ---- the jobs of a program

-- a job that stays, or another that is a gain
abbrev pub KeepsOrGains : (ℕ → StockModel) → (ℕ → Type 0) → (width temps nodes : ℕ) → Bool → JobModel → JobModel → Type 0
KeepsOrGains stock Usable width temps nodes turned old new =
    ((turned ≡ false) × (new ≡ old)) ⊎ IsGain stock Usable width temps nodes turned old new

-- each job stays, or another stands for it, and these tests are turned. Numbers and order stay
pub record AreSpelled (stock : ℕ → StockModel) (Usable : ℕ → Type 0) (width temps nodes : ℕ)
    (turned : Turns) (old new : List JobModel) : Type 0 where
  pub count : length new ≡ length old
  pub each : (k : ℕ) (a b : JobModel) → slice_get old k ≡ Some a → slice_get new k ≡ Some b →
      KeepsOrGains stock Usable width temps nodes (turned k) a b
