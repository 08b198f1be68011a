-- How many words the code of a task has at most, and how far its jumps reach.
use Rattle.std.specs.Prelude.{ℕ, ◌≡◌, List}
use Rattle.branch_fix.specs.Bounds.{program_bound}
use Rattle.form_set.specs.Listing.{greatest_reach}
use Rattle.mode_set.specs.Costs.{PlanModel}
use Rattle.mode_set.specs.Keeping.{Isas}
use Rattle.right_code.specs.Covered.{ArePlans, plan_costs}
use Rattle.right_code.specs.Tasks.{Task, task_jobs}

-- the bound is that of the program by the costs of its jobs, and the reach that of the jump forms of
-- mode 0 that keep the mode
pub record HasBound (task : Task) (bound reach : ℕ) : Type 0 where
  pub isas : Isas task.netlist
  pub plans : List PlanModel
  pub planned : ArePlans task isas plans
  pub is : bound ≡ program_bound task.program (plan_costs (task_jobs task) plans)
  pub far : reach ≡ greatest_reach (isas 0).keeping
