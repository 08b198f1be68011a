-- What is known of the numbered subtrees while it is found which of them are missed and lacking.
use Rattle.std.specs.Prelude.{ℕ, ◌<◌, ◌≡◌, ◌⊎◌, Bool, true, false, List, Some, length, replicate, slice_get, slice_index_or}
use Rattle.net_model.specs.Exprs.{ExprModel}
use Rattle.form_model.specs.Forms.{DestinationModel}
use Rattle.form_model.specs.Covers.{StockModel}
use Rattle.least_costs.specs.Made.{IsMade}
use Rattle.tree_sharing.specs.Sharing.{job_nodes}
use Rattle.cover_lacks.specs.Lacks.{RootAsks, PartAsks, RootHasAll, PartHasAll, IsMissed, IsLacking, IsUncovered}

-- ---- flags

abbrev pub IsSet : List Bool → ℕ → Type 0
IsSet flags n = slice_index_or flags n false ≡ true

-- the flag of one of the tree's numbers is set
abbrev pub IsFlagged : List ExprModel → List Bool → ExprModel → Type 0
IsFlagged nodes flags tree = (n : ℕ) × IsSet flags n × (slice_get nodes n ≡ Some tree)

-- the flags of the first n numbers were set as well
pub record Marked (old new : List Bool) (numbers : List ℕ) (n : ℕ) : Type 0 where
  pub len : length new ≡ length old
  pub set : (i m : ℕ) → i < n → slice_get numbers i ≡ Some m → IsSet new m
  pub kept : (m : ℕ) → IsSet old m → IsSet new m
  pub only : (m : ℕ) → IsSet new m → IsSet old m ⊎ ((i : ℕ) × (slice_get numbers i ≡ Some m))

-- no flag is set yet
pub record AreClear (nodes : List ExprModel) (missed lacking : List Bool) : Type 0 where
  pub none_missed : missed ≡ replicate (length nodes) false
  pub none_lacking : lacking ≡ replicate (length nodes) false

-- the flags tell of which trees the property holds
pub record AreFlags (nodes : List ExprModel) (P : ExprModel → Type 0) (flags : List Bool) : Type 0 where
  pub len : length flags ≡ length nodes
  pub sound : (n : ℕ) (tree : ExprModel) → IsSet flags n → slice_get nodes n ≡ Some tree → P tree
  pub all : (tree : ExprModel) → P tree → IsFlagged nodes flags tree

-- some flag is set
abbrev pub IsSome : List ExprModel → List Bool → Type 0
IsSome nodes flags = (tree : ExprModel) × IsFlagged nodes flags tree

-- ---- what was visited

-- something is asked for that nothing makes, and all that is asked for is made or flagged
pub record GoesOn (stock : StockModel) (nodes : List ExprModel) (missed : List Bool) (Asks : ℕ → ExprModel → Type 0) : Type 0 where
  pub form : ℕ
  pub tree : ExprModel
  pub asked : Asks form tree
  pub unmade : IsMade stock tree → ⊥
  pub all : (k : ℕ) (t : ExprModel) → Asks k t → IsMade stock t ⊎ IsFlagged nodes missed t

-- a greater number is flagged
abbrev pub IsFurther : List Bool → ℕ → Type 0
IsFurther missed n = (m : ℕ) × (n < m) × IsSet missed m

-- the job's tree is flagged as lacking, or what it asks for as missed
abbrev pub RootVisited : StockModel → DestinationModel → ExprModel → List ExprModel → List Bool → List Bool → Type 0
RootVisited stock destination root nodes missed lacking =
    (IsFlagged nodes lacking root × RootHasAll stock destination root)
    ⊎ GoesOn stock nodes missed (RootAsks stock destination root)

-- the same of a part
abbrev pub PartVisited : StockModel → List ExprModel → List Bool → List Bool → ℕ → ExprModel → Type 0
PartVisited stock nodes missed lacking n part =
    (IsSet lacking n × PartHasAll stock part)
    ⊎ (GoesOn stock nodes missed (PartAsks stock part) × IsFurther missed n)

-- the job's tree and the first n numbers were visited
pub record IsVisited (stock : StockModel) (destination : DestinationModel) (root : ExprModel) (n : ℕ) (missed lacking : List Bool) : Type 0 where
  pub len : length lacking ≡ length (job_nodes destination root)
  pub missed_len : length missed ≡ length (job_nodes destination root)
  pub sound : (m : ℕ) (t : ExprModel) → IsSet missed m → slice_get (job_nodes destination root) m ≡ Some t →
      IsMissed stock destination root t
  pub named : (m : ℕ) (t : ExprModel) → IsSet lacking m → slice_get (job_nodes destination root) m ≡ Some t →
      IsLacking stock destination root t
  pub visited_root : RootVisited stock destination root (job_nodes destination root) missed lacking
  pub visited_parts : (k : ℕ) (t : ExprModel) → k < n → IsSet missed k → slice_get (job_nodes destination root) k ≡ Some t →
      PartVisited stock (job_nodes destination root) missed lacking k t

-- ---- what is lacking of a job's tree, if it has no cover

abbrev pub LacksOf : StockModel → DestinationModel → ExprModel → ExprModel → Type 0
LacksOf stock destination root tree = IsUncovered stock destination root × IsLacking stock destination root tree

pub record IsLackingIn (stock : StockModel) (destination : DestinationModel) (root : ExprModel) (flags : List Bool) : Type 0 where
  pub are : AreFlags (job_nodes destination root) (LacksOf stock destination root) flags
  pub some : IsUncovered stock destination root → IsSome (job_nodes destination root) flags
