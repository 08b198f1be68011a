-- Where the jobs of a program stand in its text, and what they are there. The jobs themselves are
-- `stmt_jobs` of `src_trees`.
use Rattle.std.specs.Prelude.{ℕ, List, [], ◌∷◌, ◌++◌}
use Rattle.src_model.specs.Written.{StmtModel, assign, choice, while, count, StmtsModel, no_acts, act, ElseModel, without, otherwise, ProgramModel, stmts_of}
use Rattle.job_places.specs.declared.places.JobPlace.{JobPlace}
use Rattle.job_places.specs.declared.places.Role.{Role}
use Rattle.job_places.specs.declared.places.Role.TheVariants.{Assign, If, While, Start, Count, Step}

-- what a job is: the assignment to a variable, the test of an `if` or of a `while`, or what a `for`
-- does with its counter: it is set, compared and counted up
pub data RoleModel : Type 0 where
  assigned : List ℕ → RoleModel
  chosen : RoleModel
  repeated : RoleModel
  started : List ℕ → RoleModel
  counted : List ℕ → RoleModel
  stepped : List ℕ → RoleModel

-- a job's place: the offset of the assigned variable's name, of a test's first token, or of the
-- counter's name
pub record JobPlaceModel : Type 0 where
  pub at : ℕ
  pub duty : RoleModel

abbrev pub job_place : ℕ → RoleModel → JobPlaceModel
job_place at duty = record { at = at; duty = duty }

abbrev mutual
  -- those of a statement's jobs, in the order of the text
  pub places_of_jobs : StmtModel → List JobPlaceModel
  places_of_jobs (assign place e) = job_place place.at (assigned place.name) ∷ []
  places_of_jobs (choice test taken other) = job_place test.left.at chosen ∷ (places_of_jobs_in taken ++ places_of_jobs_else other)
  places_of_jobs (while test body) = job_place test.left.at repeated ∷ places_of_jobs_in body
  places_of_jobs (count counter at from to body) =
      job_place at (started counter) ∷ (job_place at (counted counter) ∷ (places_of_jobs_in body ++ job_place at (stepped counter) ∷ []))

  pub places_of_jobs_in : StmtsModel → List JobPlaceModel
  places_of_jobs_in no_acts = []
  places_of_jobs_in (act a rest) = places_of_jobs a ++ places_of_jobs_in rest

  pub places_of_jobs_else : ElseModel → List JobPlaceModel
  places_of_jobs_else without = []
  places_of_jobs_else (otherwise body) = places_of_jobs_in body

-- those of a program's jobs
abbrev pub program_job_places : ProgramModel → List JobPlaceModel
program_job_places l = places_of_jobs_in (stmts_of l.body)

-- ---- as the code has them

abbrev pub model_of_role : Role → RoleModel
model_of_role (Assign name) = assigned name.now
model_of_role If = chosen
model_of_role While = repeated
model_of_role (Start name) = started name.now
model_of_role (Count name) = counted name.now
model_of_role (Step name) = stepped name.now

abbrev pub model_of_job_place : JobPlace → JobPlaceModel
model_of_job_place place = job_place place.at (model_of_role place.role)
