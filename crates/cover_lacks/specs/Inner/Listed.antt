-- The flagged trees in the order of their first places.
use Rattle.std.specs.Prelude.{ℕ, ◌<◌, ◌≡◌, ◌&&◌, ◌==◌, Bool, false, List, ◌++◌, Some, slice_get}
use Rattle.std.specs.Borrow.{Bor}
use Rattle.net_model.specs.declared.hardware.Space.TheVariants.{Memory as InMemory}
use Rattle.net_model.specs.Exprs.{ExprModel, const, read, un, bin, slice, zext, sext}
use Rattle.form_model.specs.Forms.{DestinationModel}
use Rattle.form_model.specs.Covers.{StockModel}
use Rattle.form_model.specs.Matches.{same_op1, same_op2}
use Rattle.form_model.specs.declared.trees.Tree.{Tree}
use Rattle.tree_sharing.specs.Sharing.{IsFirst, job_nodes, exprs_at}
use Rattle.cover_lacks.specs.Lacks.{IsUncovered, IsLacking}
use Rattle.cover_lacks.specs.Inner.Flags.{AreFlags, IsFlagged, IsLackingIn, IsSet, IsSome}

-- whether two trees are equal
abbrev pub same_trees : ExprModel → ExprModel → Bool
same_trees (const w v) (const x u) = (w == x) && (v == u)
same_trees (read InMemory a w) (read InMemory b x) = (w == x) && same_trees a b
same_trees (un o a) (un p b) = same_op1 o p && same_trees a b
same_trees (bin o a b) (bin p c d) = same_op2 o p && (same_trees a c && same_trees b d)
same_trees (slice a h l) (slice b i m) = (h == i) && ((l == m) && same_trees a b)
same_trees (zext a w) (zext b x) = (w == x) && same_trees a b
same_trees (sext a w) (sext b x) = (w == x) && same_trees a b
same_trees _ _ = false

-- one of the first n numbers is the tree's, and flagged
abbrev pub FlaggedBefore : List ExprModel → List Bool → ℕ → ExprModel → Type 0
FlaggedBefore nodes flags n tree = (m : ℕ) × (m < n) × IsSet flags m × (slice_get nodes m ≡ Some tree)

-- the flagged trees whose first places are among the first n numbers, in order
pub record ListedBelow (nodes : List ExprModel) (flags : List Bool) (n : ℕ) (list : List ExprModel) : Type 0 where
  pub each : (i : ℕ) (tree : ExprModel) → slice_get list i ≡ Some tree → IsFlagged nodes flags tree
  pub placed : (i : ℕ) (tree : ExprModel) → slice_get list i ≡ Some tree → (m : ℕ) × (m < n) × IsFirst nodes tree m
  pub all : (tree : ExprModel) (m : ℕ) → m < n → IsFirst nodes tree m → IsFlagged nodes flags tree →
      (i : ℕ) × (slice_get list i ≡ Some tree)
  pub order : (i j m k : ℕ) (t u : ExprModel) → i < j → slice_get list i ≡ Some t → slice_get list j ≡ Some u →
      IsFirst nodes t m → IsFirst nodes u k → m < k

-- a tree of a job was added: its subtrees, with flags that tell what is lacking of it
pub record AddsRoot (stock : StockModel) (destination : DestinationModel) (root : ExprModel) (old new : List (Bor Tree))
    (old_flags new_flags : List Bool) : Type 0 where
  pub flags : List Bool
  pub nodes : exprs_at new ≡ exprs_at old ++ job_nodes destination root
  pub is : new_flags ≡ old_flags ++ flags
  pub lacking : IsLackingIn stock destination root flags

-- what is lacking of the first n trees
pub record LacksBelow (stock : StockModel) (destination : DestinationModel) (roots : List ExprModel) (n : ℕ) (tree : ExprModel) : Type 0 where
  pub which : ℕ
  pub within : which < n
  pub root : ExprModel
  pub used : slice_get roots which ≡ Some root
  pub uncovered : IsUncovered stock destination root
  pub lacking : IsLacking stock destination root tree

-- the first n trees of a job were added
pub record AreAdded (stock : StockModel) (destination : DestinationModel) (roots : List ExprModel) (n : ℕ) (nodes : List ExprModel)
    (flags : List Bool) : Type 0 where
  pub are : AreFlags nodes (LacksBelow stock destination roots n) flags
  pub some : (which : ℕ) (root : ExprModel) → which < n → slice_get roots which ≡ Some root →
      IsUncovered stock destination root → IsSome nodes flags
