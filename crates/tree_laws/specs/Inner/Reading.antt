-- Trees into the table, and how far a list of nodes is read for a class, and which tree that gives.
use Rattle.std.specs.Prelude.{ℕ, ◌+◌, ◌≡◌, false, List, ◌∷◌, ◌++◌, drop, map}
use Rattle.form_model.specs.declared.trees.Tree.{Tree}
use Rattle.sym_expr.specs.declared.pool.Node.{Node}
use Rattle.sym_expr.specs.Pools.{children_of}
use Rattle.tree_laws.specs.declared.classes.Classes.{Classes}
use Rattle.tree_laws.specs.Classes.{FitsIn, Grows, TreeFits, cell_bits, class_of, found_in}
use Rattle.tree_laws.specs.Spelled.{bare, nodes_of, spells}

-- the node is the tree's root over its operands' classes, also in a table that has grown since
pub record IsRootOf (table : Classes) (tree : Tree) (node : Node) : Type 0 where
  pub later : (new : Classes) → Grows table new → found_in new node ≡ class_of new tree
  pub fits : TreeFits (cell_bits table) tree → FitsIn table node

-- the node at a place is one of the class, so its operands' classes come next
pub record IsRoot (table : Classes) (nodes : List Node) (class at : ℕ) (node : Node) : Type 0 where
  pub fits : FitsIn table node
  pub follows : (rest : List ℕ) →
      spells table (class ∷ rest) (drop at nodes) ≡ spells table (children_of node ++ rest) (drop (at + 1) nodes)
  pub names : map bare (drop at nodes) ≡ bare node ∷ map bare (drop (at + 1) nodes)

-- the nodes between two places are those of a tree of the class
pub record IsRead (table : Classes) (nodes : List Node) (class at next : ℕ) (tree : Tree) : Type 0 where
  pub follows : (rest : List ℕ) → spells table (class ∷ rest) (drop at nodes) ≡ spells table rest (drop next nodes)
  pub names : map bare (drop at nodes) ≡ nodes_of tree ++ map bare (drop next nodes)

-- no tree of the class begins at the place
abbrev pub IsUnread : Classes → List Node → ℕ → ℕ → Type 0
IsUnread table nodes class at = (rest : List ℕ) → spells table (class ∷ rest) (drop at nodes) ≡ false
