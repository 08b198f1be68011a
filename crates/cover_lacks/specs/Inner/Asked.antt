-- The trees that forms ask for and nothing makes, by their numbers.
use Rattle.std.specs.Prelude.{ℕ, ◌<◌, ◌≡◌, ◌⊎◌, List, [], ◌∷◌, ◌++◌, Option, Some, None, slice_get}
use Rattle.net_model.specs.Exprs.{ExprModel, size_of}
use Rattle.form_model.specs.Trees.{model_of_tree}
use Rattle.form_model.specs.Covers.{StockModel, stock_with}
use Rattle.tree_grammar.specs.Leaves.{model_of_destination, Stands}
use Rattle.tree_grammar.specs.declared.parts.Leaf.{Leaf}
use Rattle.tree_grammar.specs.declared.parts.Leaf.TheVariants.{Operand, Cut}
use Rattle.tree_sharing.specs.Sharing.{job_nodes, exprs_at}
use Rattle.least_costs.specs.Made.{AreMade, HoldsParts, IsMade}
use Rattle.cover_lacks.specs.Lacks.{FormAsks, PartAsks}
use Rattle.cover_lacks.specs.declared.asks.Search.{Search}
use Rattle.cover_lacks.specs.declared.asks.Look.{Look}

abbrev pub search_stock : Search → StockModel
search_stock s = stock_with s.forms.now s.temps s.file

-- the numbered subtrees
abbrev pub search_nodes : Search → List ExprModel
search_nodes s = job_nodes (model_of_destination s.destination) (model_of_tree s.tree.now)

-- the subtrees stand at their numbers, and so does which of them are made
pub record IsSearch (s : Search) : Type 0 where
  pub nodes : exprs_at s.nodes.now ≡ search_nodes s
  pub made : AreMade (search_stock s) (search_nodes s) s.made.now

-- the tree's number
abbrev pub part_at : Leaf → ℕ
part_at (Operand home tree whole at) = at
part_at (Cut shape tree at) = at

-- the tree is smaller than this, where a size is given
abbrev pub IsBelow : Option ℕ → ExprModel → Type 0
IsBelow None tree = Unit {0}
IsBelow (Some n) tree = size_of tree < n

abbrev pub part_tree : Leaf → ExprModel
part_tree (Operand home tree whole at) = model_of_tree tree.now
part_tree (Cut shape tree at) = model_of_tree tree.now

-- the numbers have one more, that of a tree that counts and that nothing makes, or they are the
-- same, and the tree is made if it counts
abbrev pub AddsTree : StockModel → Option ℕ → ExprModel → ℕ → List ℕ → List ℕ → Type 0
AddsTree stock below tree at old new =
    ((new ≡ old) × (IsBelow below tree → IsMade stock tree))
    ⊎ ((new ≡ old ++ at ∷ []) × IsBelow below tree × (IsMade stock tree → ⊥))

-- the number of a part that counts and that nothing makes
pub record IsPartUnmade (stock : StockModel) (below : Option ℕ) (parts : List Leaf) (n m : ℕ) : Type 0 where
  pub place : ℕ
  pub within : place < n
  pub part : Leaf
  pub listed : slice_get parts place ≡ Some part
  pub at : part_at part ≡ m
  pub counts : IsBelow below (part_tree part)
  pub unmade : IsMade stock (part_tree part) → ⊥

-- of the first n parts the numbers of those that count and that nothing makes were added
pub record AddsParts (stock : StockModel) (below : Option ℕ) (parts : List Leaf) (n : ℕ) (old new : List ℕ) : Type 0 where
  pub added : List ℕ
  pub is : new ≡ old ++ added
  pub each : (i m : ℕ) → slice_get added i ≡ Some m → IsPartUnmade stock below parts n m
  pub all : (place : ℕ) (part : Leaf) → place < n → slice_get parts place ≡ Some part →
      IsBelow below (part_tree part) →
      IsMade stock (part_tree part) ⊎ ((i : ℕ) × (slice_get added i ≡ Some (part_at part)))

-- ---- what is asked for

-- a number in the list is the tree's
abbrev pub IsListed : List ExprModel → List ℕ → ExprModel → Type 0
IsListed nodes numbers tree = (i : ℕ) × (m : ℕ) × (slice_get numbers i ≡ Some m) × (slice_get nodes m ≡ Some tree)

-- at this number stands a tree with the property, and nothing makes it
pub record IsUnmade (stock : StockModel) (nodes : List ExprModel) (P : ExprModel → Type 0) (m : ℕ) : Type 0 where
  pub tree : ExprModel
  pub here : slice_get nodes m ≡ Some tree
  pub has : P tree
  pub unmade : IsMade stock tree → ⊥

-- the numbers are of trees with the property that nothing makes, and each such tree is among them
pub record AreUnmade (stock : StockModel) (nodes : List ExprModel) (P : ExprModel → Type 0) (numbers : List ℕ) : Type 0 where
  pub each : (i m : ℕ) → slice_get numbers i ≡ Some m → IsUnmade stock nodes P m
  pub all : (tree : ExprModel) → P tree → IsMade stock tree ⊎ IsListed nodes numbers tree

-- what one form asks for, as far as it counts
abbrev pub LookAsks : StockModel → Look → ℕ → ExprModel → Type 0
LookAsks stock l form tree =
    FormAsks stock form (model_of_destination l.goal.destination) (model_of_tree l.goal.tree.now) l.goal.whole tree × IsBelow l.below tree

-- the trees that are looked at stand at their numbers
abbrev pub LookStands : List ExprModel → Look → Type 0
LookStands nodes l = Stands nodes l.goal.at (model_of_destination l.goal.destination) (model_of_tree l.goal.tree.now)

-- what the first forms ask for
abbrev pub FirstAsk : (ℕ → ExprModel → Type 0) → ℕ → ExprModel → Type 0
FirstAsk Asks n tree = (form : ℕ) × (form < n) × Asks form tree

-- each number is greater
abbrev pub AreAfter : ℕ → List ℕ → Type 0
AreAfter at numbers = (i m : ℕ) → slice_get numbers i ≡ Some m → at < m

-- a part is looked at, and only what is smaller counts
abbrev pub IsPartLook : Look → Type 0
IsPartLook l = HoldsParts (model_of_destination l.goal.destination) × (l.below ≡ Some (size_of (model_of_tree l.goal.tree.now)))

-- the numbers of what one form asks for and nothing makes were added; those of a part are greater
pub record AddsAsked (stock : StockModel) (nodes : List ExprModel) (l : Look) (form : ℕ) (old new : List ℕ) : Type 0 where
  pub added : List ℕ
  pub is : new ≡ old ++ added
  pub are : AreUnmade stock nodes (LookAsks stock l form) added
  pub after : IsPartLook l → AreAfter l.goal.at added

-- the same of what a form asks for of a part, wherever it puts that
pub record AddsOfPart (stock : StockModel) (nodes : List ExprModel) (part : ExprModel) (at form : ℕ) (old new : List ℕ) : Type 0 where
  pub added : List ℕ
  pub is : new ≡ old ++ added
  pub are : AreUnmade stock nodes (PartAsks stock part form) added
  pub after : AreAfter at added
