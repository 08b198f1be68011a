-- The steps of jobs one after the other, and what they leave.
use Rattle.std.specs.Prelude.{◌≤◌, ◌≡◌, true, List, [], ◌∷◌, ◌++◌, Option, Some, None, slice_get}
use Rattle.net_model.specs.Exprs.{ExprModel, const}
use Rattle.form_model.specs.declared.forms.Step.{Step}
use Rattle.form_model.specs.Trees.{is_tree}
use Rattle.form_model.specs.Forms.{DestinationModel, stored, tested}
use Rattle.form_model.specs.Covers.{StockModel, JobCoverModel, Covers}
use Rattle.form_model.specs.Steps.{cut_count, cover_steps}
use Rattle.emit_seq.specs.Leaves.{IsOfJob}
use Rattle.src_trees.specs.Lowered.{JobModel}

abbrev pub tree_or_none : Option ExprModel → ExprModel
tree_or_none None = const 0 0
tree_or_none (Some t) = t

-- a list of one tree
abbrev pub IsOne : List ExprModel → Type 0
IsOne trees = (t : ExprModel) × (trees ≡ t ∷ [])

-- a job that stores something has one tree
abbrev pub HasOne : DestinationModel → List ExprModel → Type 0
HasOne tested trees = Unit {0}
HasOne destination trees = IsOne trees

-- the tree of a job that its cover uses
abbrev pub tree_used : JobModel → JobCoverModel → ExprModel
tree_used job choice = tree_or_none (slice_get job.trees choice.which)

-- the steps of a job's cover
abbrev pub job_steps : StockModel → JobModel → JobCoverModel → List Step
job_steps stock job choice = cover_steps stock job.destination (tree_used job choice) choice.cover

-- and those of jobs one after the other
abbrev pub jobs_steps : StockModel → List JobModel → List JobCoverModel → List Step
jobs_steps stock (job ∷ jobs) (choice ∷ choices) = job_steps stock job choice ++ jobs_steps stock jobs choices
jobs_steps stock _ _ = []

abbrev pub AreTrees : List ExprModel → Type 0
AreTrees [] = Unit {0}
AreTrees (t ∷ trees) = (is_tree t ≡ true) × AreTrees trees

-- the address of a store is a tree, too
abbrev pub IsTreeDestination : DestinationModel → Type 0
IsTreeDestination (stored address) = is_tree address ≡ true
IsTreeDestination destination = Unit {0}

-- a job has an orderly cover, with at most as many cuts as there are temporary cells
pub record IsCovered (stock : StockModel) (job : JobModel) (choice : JobCoverModel) : Type 0 where
  pub trees : AreTrees job.trees
  pub destination : IsTreeDestination job.destination
  pub goes : IsOfJob job.destination
  pub covers : Covers stock job.destination job.trees choice
  pub few : cut_count choice.cover ≤ stock.temps
