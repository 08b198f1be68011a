-- What the lowering of statements gives.
use Rattle.std.specs.Prelude.{ℕ, ◌+◌, ◌*◌, ◌^◌, ◌<◌, ◌≤◌, ◌≡◌, List, ◌++◌, length}
use Rattle.src_model.specs.Written.{StmtModel, assign, choice, while, count, StmtsModel, no_acts, act, ElseModel, without, otherwise, SrcTestModel}
use Rattle.src_model.specs.Loops.{place_shape}
use Rattle.src_model.specs.Fitting.{Fitting, FitsSides}
use Rattle.code_model.specs.declared.image.Place.{Place as VariablePlace}
use Rattle.form_model.specs.declared.trees.Job.{Job}
use Rattle.form_model.specs.declared.flow.Flow.{Flow}
use Rattle.src_trees.specs.Lowered.{MemoryMap, stmt_jobs, jobs_in}
use Rattle.src_trees.specs.Flows.{flow_of, flow_in}
use Rattle.src_trees.specs.Inner.Near.{IsNear}
use Rattle.src_trees.specs.Jobs.{models_of_jobs}

-- the sides of a test that can be lowered
pub record IsPlainTest (word : ℕ) (places : List VariablePlace) (test : SrcTestModel) : Type 0 where
  pub sides : FitsSides word test.left.shape test.right.shape
  pub left : IsNear places test.left.shape
  pub right : IsNear places test.right.shape

abbrev mutual
  pub IsPlain : ℕ → List VariablePlace → StmtModel → Type 0
  IsPlain word places (assign place e) =
      Fitting word word (place_shape place) × Fitting word word e.shape
      × IsNear places (place_shape place) × IsNear places e.shape
  IsPlain word places (choice test taken other) =
      IsPlainTest word places test × ArePlain word places taken × IsPlainElse word places other
  IsPlain word places (while test body) = IsPlainTest word places test × ArePlain word places body
  IsPlain word places (count counter at from to body) = (to + 1 < 2 ^ 64) × ArePlain word places body

  pub ArePlain : ℕ → List VariablePlace → StmtsModel → Type 0
  ArePlain word places no_acts = Unit {0}
  ArePlain word places (act a rest) = IsPlain word places a × ArePlain word places rest

  pub IsPlainElse : ℕ → List VariablePlace → ElseModel → Type 0
  IsPlainElse word places without = Unit {0}
  IsPlainElse word places (otherwise body) = ArePlain word places body

-- a place in the flow, behind some jobs, from which so many trees more can be lowered
pub record IsReady (at : ℕ) (jobs : List Job) (more : ℕ) : Type 0 where
  pub place : at ≤ 2 * length jobs
  pub few : length jobs + more ≤ 65536

-- the flow and the jobs of a statement, of statements, and of an else part
pub record IsLowered (m : MemoryMap) (a : StmtModel) (at : ℕ) (old new : List Job) (flow : List Flow) : Type 0 where
  pub flow_is : flow ≡ flow_of a (length old) at
  pub jobs_are : models_of_jobs new ≡ models_of_jobs old ++ stmt_jobs m a

pub record AreLowered (m : MemoryMap) (list : StmtsModel) (at : ℕ) (old new : List Job) (flow : List Flow) : Type 0 where
  pub flow_is : flow ≡ flow_in list (length old) at
  pub jobs_are : models_of_jobs new ≡ models_of_jobs old ++ jobs_in m list
