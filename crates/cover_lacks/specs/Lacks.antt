-- Which subtrees of a job nothing makes, though all is made that forms ask of them. A form *asks*
-- for the operands and the cuts of its match. What is asked for, from the job's tree down, and
-- isn't made is *missed*. What is *lacking* is missed though all that is asked of it is made, or
-- is the job's tree itself, where all that is asked of it is. The list has exactly these, each
-- once, in the order in which they first stand.
use Rattle.std.specs.Prelude.{ℕ, ◌<◌, ◌≡◌, ◌⊎◌, Bool, true, false, List, [], ◌∷◌, ◌++◌, Some, map, slice_get}
use Rattle.net_model.specs.Exprs.{ExprModel, size_of}
use Rattle.form_model.specs.Forms.{FormModel, DestinationModel}
use Rattle.form_model.specs.Matches.{LeafModel, operand, cut, MatchModel, taken}
use Rattle.form_model.specs.CoverModels.{CoverModel}
use Rattle.form_model.specs.Covers.{StockModel}
use Rattle.least_costs.specs.Made.{HoldsParts, IsCover, IsMade}
use Rattle.tree_sharing.specs.Sharing.{IsFirst, job_nodes}

-- ---- what forms ask for

-- the tree of an operand or of a cut
abbrev pub leaf_tree : LeafModel → ExprModel
leaf_tree (operand home tree whole) = tree
leaf_tree (cut shape tree) = tree

-- a form asks for a tree: it takes the one that goes to the destination, and its match leaves the
-- other open, as an operand or a cut
pub record FormAsks (stock : StockModel) (k : ℕ) (destination : DestinationModel) (tree : ExprModel) (whole : Bool)
    (asked : ExprModel) : Type 0 where
  pub form : FormModel
  pub listed : slice_get stock.forms k ≡ Some form
  pub found : MatchModel
  pub takes : taken stock.temps form destination tree whole ≡ Some found
  pub leaf : ℕ
  pub leaves : slice_get (map leaf_tree found.leaves) leaf ≡ Some asked

-- of a job's tree: for the destination of the job
abbrev pub RootAsks : StockModel → DestinationModel → ExprModel → ℕ → ExprModel → Type 0
RootAsks stock destination root form asked = FormAsks stock form destination root true asked

-- of a part of a job's tree: for a register, the file or a temporary cell. A form that moves the part
-- itself from one to another asks for nothing smaller, and doesn't count
pub record PartAsks (stock : StockModel) (part : ExprModel) (form : ℕ) (asked : ExprModel) : Type 0 where
  pub destination : DestinationModel
  pub holds : HoldsParts destination
  pub asks : FormAsks stock form destination part false asked
  pub smaller : size_of asked < size_of part

-- ---- what is missed, and what is lacking

-- a part that nothing makes is missed where a form asks for it of the job's tree, or of a part that
-- is missed
pub data IsMissed (stock : StockModel) (destination : DestinationModel) (root : ExprModel) : ExprModel → Type 0 where
  of_root : {tree : ExprModel} (form : ℕ) → RootAsks stock destination root form tree → (IsMade stock tree → ⊥) →
      IsMissed stock destination root tree
  of_part : {part tree : ExprModel} (form : ℕ) → IsMissed stock destination root part → PartAsks stock part form tree →
      (IsMade stock tree → ⊥) → IsMissed stock destination root tree

-- all that forms ask of the job's tree is made
abbrev pub RootHasAll : StockModel → DestinationModel → ExprModel → Type 0
RootHasAll stock destination root =
    (form : ℕ) (asked : ExprModel) → RootAsks stock destination root form asked → IsMade stock asked

-- all that forms ask of a part is made
abbrev pub PartHasAll : StockModel → ExprModel → Type 0
PartHasAll stock part = (form : ℕ) (asked : ExprModel) → PartAsks stock part form asked → IsMade stock asked

-- a job's tree that has no cover, or a part that is missed, of which all is made that forms ask for
abbrev pub IsLacking : StockModel → DestinationModel → ExprModel → ExprModel → Type 0
IsLacking stock destination root tree =
    ((tree ≡ root) × RootHasAll stock destination root)
    ⊎ (IsMissed stock destination root tree × PartHasAll stock tree)

-- the tree has no cover for the destination
abbrev pub IsUncovered : StockModel → DestinationModel → ExprModel → Type 0
IsUncovered stock destination root = (cover : CoverModel) → IsCover stock destination root true cover → ⊥

-- what is lacking of one of the trees that have no cover
pub record Lacks (stock : StockModel) (destination : DestinationModel) (roots : List ExprModel) (tree : ExprModel) : Type 0 where
  pub which : ℕ
  pub root : ExprModel
  pub used : slice_get roots which ≡ Some root
  pub uncovered : IsUncovered stock destination root
  pub lacking : IsLacking stock destination root tree

-- ---- the list

-- the numbered subtrees of a job's trees, one after the other
abbrev pub all_nodes : DestinationModel → List ExprModel → List ExprModel
all_nodes destination [] = []
all_nodes destination (root ∷ roots) = job_nodes destination root ++ all_nodes destination roots

-- the list has exactly the trees with this property, each once, in the order of their first places
-- among these
pub record AreInOrder (nodes : List ExprModel) (P : ExprModel → Type 0) (list : List ExprModel) : Type 0 where
  pub each : (i : ℕ) (tree : ExprModel) → slice_get list i ≡ Some tree → P tree
  pub all : (tree : ExprModel) → P tree → (i : ℕ) × (slice_get list i ≡ Some tree)
  pub placed : (i : ℕ) (tree : ExprModel) → slice_get list i ≡ Some tree → (n : ℕ) × IsFirst nodes tree n
  pub order : (i j m n : ℕ) (t u : ExprModel) → i < j → slice_get list i ≡ Some t → slice_get list j ≡ Some u →
      IsFirst nodes t m → IsFirst nodes u n → m < n

-- all that is lacking of a job, from left to right
abbrev pub AreLacking : StockModel → DestinationModel → List ExprModel → List ExprModel → Type 0
AreLacking stock destination roots list =
    AreInOrder (all_nodes destination roots) (Lacks stock destination roots) list
