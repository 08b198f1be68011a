-- The sizes of trees: the nodes of a word's width, which are those that may need a temporary cell,
-- and all nodes.
use Rattle.std.specs.Prelude.{ℕ, ◌+◌, max, ◌≤◌, ◌≡◌, true, if◌then◌else◌, List, [], ◌∷◌}
use Rattle.net_model.specs.Exprs.{ExprModel, word, reg, const, read, un, bin, slice, cat, zext, sext, select, size_of}
use Rattle.form_model.specs.Trees.{is_tree, is_number}
use Rattle.form_model.specs.Forms.{DestinationModel, into, cell, filed, stored, temporary, tested}
use Rattle.form_model.specs.WideNodes.{tree_temps}
use Rattle.src_trees.specs.Lowered.{JobModel}

-- the greatest count over all trees of a job, and over all jobs
abbrev pub trees_temps : ℕ → DestinationModel → List ExprModel → ℕ
trees_temps bits destination [] = 0
trees_temps bits destination (t ∷ trees) = max (tree_temps bits destination t) (trees_temps bits destination trees)

abbrev pub most_temps : ℕ → List JobModel → ℕ
most_temps bits [] = 0
most_temps bits (job ∷ later) = max (trees_temps bits job.destination job.trees) (most_temps bits later)

-- ---- nodes

-- the nodes of a tree; a read at a number is one
abbrev pub node_size : ExprModel → ℕ
node_size (word w) = 1
node_size (reg r w) = 1
node_size (const w v) = 1
node_size (read space a w) = if is_number a then 1 else 1 + node_size a
node_size (un o a) = 1 + node_size a
node_size (bin o a b) = 1 + node_size a + node_size b
node_size (slice a hi lo) = 1 + node_size a
node_size (cat a b) = 1 + node_size a + node_size b
node_size (zext a w) = 1 + node_size a
node_size (sext a w) = 1 + node_size a
node_size (select c a b) = 1 + node_size c + node_size a + node_size b

-- those of a tree of a job with this destination: a store is a node, with both trees below it
abbrev pub tree_nodes : DestinationModel → ExprModel → ℕ
tree_nodes (stored address) t = 1 + node_size address + node_size t
tree_nodes (into id) t = node_size t
tree_nodes (cell address) t = node_size t
tree_nodes temporary t = node_size t
tree_nodes filed t = node_size t
tree_nodes tested t = node_size t

-- the greatest count over all trees of a job, and over all jobs
abbrev pub trees_nodes : DestinationModel → List ExprModel → ℕ
trees_nodes destination [] = 0
trees_nodes destination (t ∷ trees) = max (tree_nodes destination t) (trees_nodes destination trees)

abbrev pub most_nodes : List JobModel → ℕ
most_nodes [] = 0
most_nodes (job ∷ later) = max (trees_nodes job.destination job.trees) (most_nodes later)

-- ---- sizes

-- the leaves and operators of a tree of a job
abbrev pub tree_size : DestinationModel → ExprModel → ℕ
tree_size (stored address) t = size_of address + size_of t
tree_size (into id) t = size_of t
tree_size (cell address) t = size_of t
tree_size temporary t = size_of t
tree_size filed t = size_of t
tree_size tested t = size_of t

abbrev pub IsTreeGoal : DestinationModel → Type 0
IsTreeGoal (stored address) = is_tree address ≡ true
IsTreeGoal (into id) = ⊥
IsTreeGoal (cell address) = Unit {0}
IsTreeGoal temporary = ⊥
IsTreeGoal filed = ⊥
IsTreeGoal tested = Unit {0}

-- all trees of a job
abbrev pub TreesAre : ℕ → ℕ → ℕ → DestinationModel → List ExprModel → Type 0
TreesAre bits temps most destination [] = Unit {0}
TreesAre bits temps most destination (t ∷ trees) =
    (is_tree t ≡ true) × (tree_temps bits destination t ≤ temps) × (tree_size destination t ≤ most)
    × TreesAre bits temps most destination trees

-- a job of trees alone, of which each needs at most so many temporary cells and has at most so many
-- nodes
pub record IsSmall (bits temps most : ℕ) (job : JobModel) : Type 0 where
  pub destination : IsTreeGoal job.destination
  pub trees : TreesAre bits temps most job.destination job.trees

abbrev pub AllSmall : ℕ → ℕ → ℕ → List JobModel → Type 0
AllSmall bits temps most [] = Unit {0}
AllSmall bits temps most (job ∷ later) = IsSmall bits temps most job × AllSmall bits temps most later
