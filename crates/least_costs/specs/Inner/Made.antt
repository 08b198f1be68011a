-- Covers of parts of a job's tree, by the form at the root.
use Rattle.std.specs.Prelude.{ℕ, ◌≡◌, Bool, true, false, List, Some, length, slice_get}
use Rattle.net_model.specs.Exprs.{ExprModel}
use Rattle.form_model.specs.Forms.{DestinationModel}
use Rattle.form_model.specs.CoverModels.{use_form, CoverOperandsModel, CoverCutsModel}
use Rattle.form_model.specs.Covers.{StockModel}
use Rattle.least_costs.specs.Made.{HoldsParts, IsCover, IsMade}

-- no cover of the tree as a part begins with the form at k
abbrev pub NeverMakes : StockModel → ExprModel → ℕ → Type 0
NeverMakes stock tree k =
    (destination : DestinationModel) (ps : CoverOperandsModel) (cs : CoverCutsModel) → HoldsParts destination →
    IsCover stock destination tree false (use_form k ps cs) → ⊥

-- whether one does
abbrev pub Makes : StockModel → ExprModel → ℕ → Bool → Type 0
Makes stock tree k true = IsMade stock tree
Makes stock tree k false = NeverMakes stock tree k

-- whether the tree is made
abbrev pub TellsMade : StockModel → ExprModel → Bool → Type 0
TellsMade stock tree true = IsMade stock tree
TellsMade stock tree false = IsMade stock tree → ⊥

-- which of the first trees are made
pub record AreMadeBelow (stock : StockModel) (trees : List ExprModel) (n : ℕ) (made : List Bool) : Type 0 where
  pub len : length made ≡ n
  pub each : (k : ℕ) (tree : ExprModel) (yes : Bool) → slice_get trees k ≡ Some tree → slice_get made k ≡ Some yes →
      TellsMade stock tree yes
