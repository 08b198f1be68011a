-- What is kept in the table of a tree.
use Rattle.std.specs.Prelude.{ℕ, ◌≡◌, List, [], Some, slice_get, length}
use Rattle.std.specs.declared.vec.Vec.{Vec}
use Rattle.std.specs.declared.rc.Rc.{Rc}
use Rattle.std.specs.declared.alloc.Global.{Global}
use Rattle.net_model.specs.Exprs.{ExprModel}
use Rattle.form_model.specs.Trees.{model_of_tree}
use Rattle.least_costs.specs.declared.search.Search.{Search}
use Rattle.least_costs.specs.declared.table.KeptRow.{KeptRow}
use Rattle.least_costs.specs.declared.table.CostTable.{CostTable}
use Rattle.least_costs.specs.declared.matches.Matches.{Matches}
use Rattle.tree_sharing.specs.Sharing.{AreFirstEqual}
use Rattle.least_costs.specs.Subgoals.{AreFew}
use Rattle.least_costs.specs.Rows.{IsLeastRow}
use Rattle.least_costs.specs.Searches.{search_stock, search_nodes}
use Rattle.least_costs.specs.Matched.{AreMatches}

abbrev pub IsAmong : {A : Type 0} → List A → A → Type 0
IsAmong xs x = (i : ℕ) × (slice_get xs i ≡ Some x)

abbrev pub AreEmpty : {A : Type 0} → List (Vec A Global) → Type 0
AreEmpty {A = A} lists = (n : ℕ) (v : Vec A Global) → slice_get lists n ≡ Some v → v.items ≡ []

-- so it is with each item of each list and the list's number
abbrev pub EachKept : {A : Type 0} → (ℕ → A → Type 0) → List (Vec A Global) → Type 0
EachKept {A = A} P lists = (n : ℕ) (v : Vec A Global) (x : A) → slice_get lists n ≡ Some v → IsAmong v.items x → P n x

-- the row is the least of the tree of this number
pub record IsKept (search : Search) (number : ℕ) (row : KeptRow) : Type 0 where
  pub len : length row.costs.items ≡ 18
  pub least : (t : ExprModel) → slice_get (search_nodes search) number ≡ Some t →
      IsLeastRow (search_stock search) row.limits t row.whole row.costs.items

-- the matches are those of the tree of this number
pub record HasMatches (search : Search) (number : ℕ) (shared : Rc Matches Global) : Type 0 where
  pub tree : slice_get (search_nodes search) number ≡ Some (model_of_tree shared.value.tree.now)
  pub matches : AreMatches search shared.value

-- the trees are few, the numbers of equal ones are right, and so are all matches and each row that
-- is kept
pub record AreRight (search : Search) (table : CostTable) : Type 0 where
  pub few : AreFew (length (search_nodes search))
  pub firsts : AreFirstEqual (search_nodes search) table.firsts.items
  pub matches : EachKept (HasMatches search) table.matches.items
  pub rows : EachKept (IsKept search) table.rows.items
