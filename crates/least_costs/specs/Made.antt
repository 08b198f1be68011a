-- The least cost of a tree's covers into a destination, none where it has none, and which trees
-- are made. A tree is *made* where it can come, as a part of a job's tree, into some register, the
-- file or a temporary cell.
use Rattle.std.specs.Prelude.{ℕ, ◌≤◌, ◌≡◌, Bool, true, false, List, Option, Some, None, length, slice_get}
use Rattle.net_model.specs.Exprs.{ExprModel}
use Rattle.form_model.specs.Forms.{DestinationModel, into, filed, cell, stored, temporary, tested, GoalModel, into_reg, into_memory, into_file, jumps, branches}
use Rattle.form_model.specs.CoverModels.{CoverModel, cost}
use Rattle.form_model.specs.Covers.{StockModel, IsOrderly, need}

-- an orderly cover for which the file is large enough
pub record IsCover (stock : StockModel) (destination : DestinationModel) (tree : ExprModel) (whole : Bool) (cover : CoverModel) : Type 0 where
  pub orderly : IsOrderly stock destination tree whole cover
  pub enough : need stock.forms cover ≤ stock.file

-- the cost of such a cover, and none is cheaper
pub record IsCheapest (stock : StockModel) (destination : DestinationModel) (tree : ExprModel) (whole : Bool) (n : ℕ) : Type 0 where
  pub cover : CoverModel
  pub covers : IsCover stock destination tree whole cover
  pub costs : cost cover ≡ n
  pub least : (other : CoverModel) → IsCover stock destination tree whole other → n ≤ cost other

-- the least cost of a tree's covers, or none where it has no cover
abbrev pub IsLeastCost : StockModel → DestinationModel → ExprModel → Bool → Option ℕ → Type 0
IsLeastCost stock destination tree whole None = (cover : CoverModel) → IsCover stock destination tree whole cover → ⊥
IsLeastCost stock destination tree whole (Some n) = IsCheapest stock destination tree whole n

-- where a part of a job's tree can go: into a register, the file or a temporary cell
abbrev pub HoldsParts : DestinationModel → Type 0
HoldsParts (into id) = Unit {0}
HoldsParts filed = Unit {0}
HoldsParts temporary = Unit {0}
HoldsParts (cell address) = ⊥
HoldsParts (stored address) = ⊥
HoldsParts tested = ⊥

-- where a form puts a part of a job's tree
abbrev pub part_goal : GoalModel → Option DestinationModel
part_goal (into_reg id) = Some (into id)
part_goal into_memory = Some temporary
part_goal into_file = Some filed
part_goal (jumps reach) = None
part_goal (branches when_one to) = None

-- a tree is made where it has a cover, as a part of a job's tree, into some register, the file or a
-- temporary cell
pub record IsMade (stock : StockModel) (tree : ExprModel) : Type 0 where
  pub destination : DestinationModel
  pub holds : HoldsParts destination
  pub cover : CoverModel
  pub covers : IsCover stock destination tree false cover

-- which of the trees are made
pub record AreMade (stock : StockModel) (trees : List ExprModel) (made : List Bool) : Type 0 where
  pub len : length made ≡ length trees
  pub yes : (n : ℕ) (tree : ExprModel) → slice_get trees n ≡ Some tree → slice_get made n ≡ Some true → IsMade stock tree
  pub no : (n : ℕ) (tree : ExprModel) → slice_get trees n ≡ Some tree → slice_get made n ≡ Some false →
      IsMade stock tree → ⊥
