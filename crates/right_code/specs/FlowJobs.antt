-- The jobs of a program: those of assignments store something and have one tree, and those of tests
-- store nothing.
use Rattle.std.specs.Prelude.{ℕ, ◌≡◌, List, [], ◌∷◌, slice_get, Some}
use Rattle.form_model.specs.declared.flow.Flow.{Flow}
use Rattle.form_model.specs.declared.flow.Flow.TheVariants.{Assign, Test as Tested, Jump as Jumped, End as Ended}
use Rattle.form_model.specs.Forms.{tested}
use Rattle.src_trees.specs.Lowered.{JobModel}
use Rattle.right_code.specs.Jobs.{HasOne}

-- each job that stores something has one tree
abbrev pub AllOne : List JobModel → Type 0
AllOne [] = Unit {0}
AllOne (job ∷ later) = HasOne job.destination job.trees × AllOne later

-- the job of an assignment
pub record IsStoringJob (all : List JobModel) (tree : ℕ) : Type 0 where
  pub job : JobModel
  pub at : slice_get all tree ≡ Some job
  pub destination : job.destination ≡ tested → ⊥

-- the job of a test
pub record IsTestJob (all : List JobModel) (tree : ℕ) : Type 0 where
  pub job : JobModel
  pub at : slice_get all tree ≡ Some job
  pub destination : job.destination ≡ tested

-- the jobs of a flow: those of its assignments store something, and those of its tests nothing
abbrev pub AreFlowJobs : List JobModel → List Flow → Type 0
AreFlowJobs all [] = Unit {0}
AreFlowJobs all (Assign tree ∷ rest) = IsStoringJob all tree × AreFlowJobs all rest
AreFlowJobs all (Tested tree one none ∷ rest) = IsTestJob all tree × AreFlowJobs all rest
AreFlowJobs all (Jumped to ∷ rest) = AreFlowJobs all rest
AreFlowJobs all (Ended ∷ rest) = AreFlowJobs all rest

-- how many leaves and operators the trees of a job have at most, with the addresses of two memories
-- among them
abbrev pub node_limit : ℕ
node_limit = 1020
