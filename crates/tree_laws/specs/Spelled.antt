-- Trees that a list of nodes spells: each node before its operands, and these from left to right.
use Rattle.std.specs.Prelude.{ℕ, ◌≡◌, if◌then◌else◌, Bool, true, false, List, [], ◌∷◌, ◌++◌, map, Option, Some, None}
use Rattle.form_model.specs.declared.trees.Tree.{Tree}
use Rattle.form_model.specs.declared.trees.Tree.TheVariants.{Lit, Read', Un', Bin', Slice', Zext', Sext'}
use Rattle.sym_expr.specs.declared.pool.Node.{Node}
use Rattle.sym_expr.specs.declared.pool.Node.TheVariants.{Word, Reg, Const, Read, Cell, Un, Bin, Slice, Cat, Zext, Sext, Select}
use Rattle.sym_expr.specs.Pools.{children_of}
use Rattle.tree_laws.specs.declared.classes.Classes.{Classes}
use Rattle.tree_laws.specs.Classes.{are_joined, found_in}

-- whether the nodes are, from the first on, those of trees of these classes, one behind the other:
-- each node is one of the class that comes next, and then those of its operands come
abbrev pub spells : Classes → List ℕ → List Node → Bool
spells table [] nodes = true
spells table (c ∷ rest) [] = false
spells table (c ∷ rest) (node ∷ nodes) =
    if are_joined table (found_in table node) (Some c) then spells table (children_of node ++ rest) nodes else false

-- whether they are those of a tree of the class, where there is one
abbrev pub spells_one : Classes → Option ℕ → List Node → Bool
spells_one table None nodes = false
spells_one table (Some c) nodes = spells table (c ∷ []) nodes

-- a node without its operands
abbrev pub bare : Node → Node
bare (Word w) = Word w
bare (Reg r w) = Reg r w
bare (Const w v) = Const w v
bare (Read a w) = Read 0 w
bare (Cell a w) = Cell 0 w
bare (Un o a) = Un o 0
bare (Bin o a b) = Bin o 0 0
bare (Slice a hi lo) = Slice 0 hi lo
bare (Cat a b) = Cat 0 0
bare (Zext a w) = Zext 0 w
bare (Sext a w) = Sext 0 w
bare (Select c a b) = Select 0 0 0

-- the nodes of a tree in that order
abbrev pub nodes_of : Tree → List Node
nodes_of (Lit w v) = Const w v ∷ []
nodes_of (Read' p a w) = Read 0 w ∷ nodes_of a
nodes_of (Un' o p a) = Un o 0 ∷ nodes_of a
nodes_of (Bin' o p a q b) = Bin o 0 0 ∷ nodes_of a ++ nodes_of b
nodes_of (Slice' p a hi lo) = Slice 0 hi lo ∷ nodes_of a
nodes_of (Zext' p a w) = Zext 0 w ∷ nodes_of a
nodes_of (Sext' p a w) = Sext 0 w ∷ nodes_of a

-- the tree is the one of this class whose nodes the list has from its first on
pub record IsSpelled (table : Classes) (class : Option ℕ) (nodes : List Node) (tree : Tree) : Type 0 where
  pub spelled : spells_one table class nodes ≡ true
  pub behind : List Node
  pub names : map bare nodes ≡ nodes_of tree ++ behind
