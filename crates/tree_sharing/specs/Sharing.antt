-- The numbered subtrees of a job, and which of them are equal. The subtrees of a job in their
-- order, those of a store's address before those of the tree, and for each of them the least
-- number of an equal one.
use Rattle.std.specs.Prelude.{ℕ, ◌≡◌, ◌≤◌, List, ◌++◌, Some, length, map, slice_get}
use Rattle.std.specs.Borrow.{Bor}
use Rattle.net_model.specs.Exprs.{ExprModel}
use Rattle.form_model.specs.Trees.{model_of_tree}
use Rattle.form_model.specs.declared.trees.Tree.{Tree}
use Rattle.form_model.specs.Forms.{DestinationModel, into, filed, cell, stored, temporary, tested}
use Rattle.tree_grammar.specs.Numbers.{subtrees}

-- the trees of a destination and a value: the address of a store before its value
abbrev pub job_nodes : DestinationModel → ExprModel → List ExprModel
job_nodes (stored address) t = subtrees address ++ subtrees t
job_nodes (into id) t = subtrees t
job_nodes filed t = subtrees t
job_nodes (cell address) t = subtrees t
job_nodes temporary t = subtrees t
job_nodes tested t = subtrees t

-- the least number of a tree
pub record IsFirst (nodes : List ExprModel) (t : ExprModel) (n : ℕ) : Type 0 where
  pub at : slice_get nodes n ≡ Some t
  pub least : (m : ℕ) → slice_get nodes m ≡ Some t → n ≤ m

-- each number, and no other, has the least one of an equal tree
pub record AreFirstEqual (nodes : List ExprModel) (firsts : List ℕ) : Type 0 where
  pub len : length firsts ≡ length nodes
  pub each : (n f : ℕ) (t : ExprModel) → slice_get firsts n ≡ Some f → slice_get nodes n ≡ Some t → IsFirst nodes t f

-- the trees that the code's references lead to
abbrev pub exprs_at : List (Bor Tree) → List ExprModel
exprs_at trees = map (λ tree. model_of_tree tree.now) trees
