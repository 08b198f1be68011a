-- What the code's program stands for.
use Rattle.std.specs.Prelude.{ℕ, ◌<◌, ◌^◌, ◌≡◌, List, Option, Some, None, slice_get}
use Rattle.form_model.specs.Forms.{tested}
use Rattle.form_model.specs.declared.flow.Flow.TheVariants.{Assign, Test}
use Rattle.src_trees.specs.Lowered.{JobModel}
use Rattle.form_model.specs.declared.flow.Flow.{Flow}
use Rattle.mode_set.specs.Costs.{PlanModel}
use Rattle.code_gen.specs.declared.views.PlannedProgram.{PlannedProgram}
use Rattle.code_gen.specs.Inner.Planning.{plans_in, jobs_in}

-- the job of a test, with its plan
pub record IsTestJob (program : PlannedProgram) (job : JobModel) (planned : PlanModel) : Type 0 where
  pub tree : ℕ
  pub jobs : slice_get (jobs_in program) tree ≡ Some job
  pub plans : slice_get (plans_in program) tree ≡ Some planned
  pub test : job.destination ≡ tested

-- the test of a tree stands at this place of the flow
pub record IsTestAt (program : PlannedProgram) (at tree : ℕ) : Type 0 where
  pub when_one : ℕ
  pub when_zero : ℕ
  pub place : slice_get program.flow.now at ≡ Some (Test tree when_one when_zero)

-- the mode of the job at a place of the flow, and 0 where no assignment stands there
abbrev pub mode_of_plan : Option PlanModel → ℕ
mode_of_plan None = 0
mode_of_plan (Some planned) = planned.mode

abbrev pub mode_of_place : List PlanModel → Option Flow → ℕ
mode_of_place plans (Some (Assign tree)) = mode_of_plan (slice_get plans tree)
mode_of_place plans _ = 0

abbrev pub place_mode : PlannedProgram → ℕ → ℕ
place_mode program at = mode_of_place (plans_in program) (slice_get program.flow.now at)

-- the set of the register that holds the mode, which is empty where there is none
abbrev pub mode_bits : Option ℕ → ℕ
mode_bits None = 0
mode_bits (Some mode) = 2 ^ mode

-- a set of registers has a bit for that one
abbrev pub HasModeBit : Option ℕ → Type 0
HasModeBit None = Unit {0}
HasModeBit (Some mode) = mode < 16
