-- What jobs do to the cells of the memory.
use Rattle.std.specs.Prelude.{ℕ, ◌≡◌, ◌≤◌, ◌<◌, List, [], ◌∷◌, length, slice_set, Option, Some, None}
use Rattle.net_model.specs.Exprs.{ExprModel}
use Rattle.form_model.specs.Forms.{DestinationModel, into, cell, filed, stored, temporary, tested}
use Rattle.src_trees.specs.Lowered.{JobModel}
use Rattle.src_trees.specs.Seen.{tree_value, ReadsCells}

-- the value of a job: that of its first tree
abbrev pub job_value : List ℕ → List ExprModel → ℕ
job_value cells [] = 0
job_value cells (t ∷ trees) = tree_value cells t

-- the cell of the memory that a destination names
abbrev pub destination_cell : List ℕ → DestinationModel → Option ℕ
destination_cell cells (cell address) = Some address
destination_cell cells (stored address) = Some (tree_value cells address)
destination_cell cells (into id) = None
destination_cell cells temporary = None
destination_cell cells filed = None
destination_cell cells tested = None

-- the cells with a value there
abbrev pub put_in : Option ℕ → ℕ → List ℕ → List ℕ
put_in None v cells = cells
put_in (Some address) v cells = slice_set cells address v

-- the cells with a value at the destination
abbrev pub put_at : DestinationModel → ℕ → List ℕ → List ℕ
put_at destination v cells = put_in (destination_cell cells destination) v cells

-- the cells after a job
abbrev pub done : JobModel → List ℕ → List ℕ
done job cells = put_at job.destination (job_value cells job.trees) cells

-- and after jobs one after the other
abbrev pub all_done : List JobModel → List ℕ → List ℕ
all_done [] cells = cells
all_done (job ∷ later) cells = all_done later (done job cells)

-- ---- when a job's reads and its destination lie in the memory, and none of them below an address

abbrev pub AllRead : ℕ → List ℕ → List ExprModel → Type 0
AllRead at cells [] = Unit {0}
AllRead at cells (t ∷ trees) = ReadsCells at cells t × AllRead at cells trees

abbrev pub DestinationLies : ℕ → List ℕ → DestinationModel → Type 0
DestinationLies at cells (cell address) = (at ≤ address) × (address < length cells)
DestinationLies at cells (stored address) =
    ReadsCells at cells address × (at ≤ tree_value cells address)
    × (tree_value cells address < length cells)
DestinationLies at cells (into id) = Unit {0}
DestinationLies at cells temporary = Unit {0}
DestinationLies at cells filed = Unit {0}
DestinationLies at cells tested = Unit {0}

pub record Lies (at : ℕ) (cells : List ℕ) (job : JobModel) : Type 0 where
  pub reads : AllRead at cells job.trees
  pub destination : DestinationLies at cells job.destination
  pub below : at ≤ length cells

-- those of jobs one after the other
abbrev pub AllLie : ℕ → List ℕ → List JobModel → Type 0
AllLie at cells [] = Unit {0}
AllLie at cells (job ∷ later) = Lies at cells job × AllLie at (done job cells) later

-- all these trees have one value
abbrev pub AllAre : ℕ → List ℕ → List ExprModel → Type 0
AllAre v cells [] = Unit {0}
AllAre v cells (t ∷ trees) = (tree_value cells t ≡ v) × AllAre v cells trees
