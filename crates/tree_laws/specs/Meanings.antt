-- Classes of equal trees: what it means that each class has a meaning.
use Rattle.std.specs.Prelude.{ℕ, ◌^◌, ◌<◌, ◌≡◌, ◌==◌, if◌then◌else◌, List, [], length, Option, Some, None, slice_get, slice_index}
use Rattle.std.specs.Map.{lookup}
use Rattle.rec_bits.specs.Operators.{IsWidth}
use Rattle.net_model.specs.declared.states.State.{State}
use Rattle.net_model.specs.Exprs.{ExprModel, reg, expr_width}
use Rattle.net_model.specs.Meaning.{mean}
use Rattle.sym_expr.specs.declared.pool.Node.{Node}
use Rattle.sym_expr.specs.declared.pool.Node.TheVariants.{Word, Reg, Const, Read, Cell, Un, Bin, Slice, Cat, Zext, Sext, Select}
use Rattle.sym_expr.specs.contracts.pool.NodePartialEq.TheImpl.{ghosts as node_eq}
use Rattle.sym_expr.specs.Pools.{node_expr, children_of, AllBelow, HeadFits}
use Rattle.tree_laws.specs.Equal.{CellsFit}
use Rattle.tree_laws.specs.declared.classes.Class.{Class}

-- ---- nodes as expressions: a class is a variable, which has the place of a register

abbrev pub class_width : Option Class → ℕ
class_width None = 0
class_width (Some class) = class.width

-- the width of a class's trees
abbrev pub width_at : List Class → ℕ → ℕ
width_at classes c = class_width (slice_get classes c)

abbrev pub class_expr : List Class → ℕ → ExprModel
class_expr classes c = reg c (width_at classes c)

-- a node over classes
abbrev pub expr_over : List Class → Node → ExprModel
expr_over classes node = node_expr node (class_expr classes)

-- a node that trees have, over a memory whose cells have so many bits
abbrev pub IsOfTree : ℕ → Node → Type 0
IsOfTree cell (Word w) = ⊥
IsOfTree cell (Reg r w) = ⊥
IsOfTree cell (Const w v) = Unit {0}
IsOfTree cell (Read a w) = w ≡ cell
IsOfTree cell (Cell a w) = ⊥
IsOfTree cell (Un o a) = Unit {0}
IsOfTree cell (Bin o a b) = Unit {0}
IsOfTree cell (Slice a hi lo) = Unit {0}
IsOfTree cell (Cat a b) = ⊥
IsOfTree cell (Zext a w) = Unit {0}
IsOfTree cell (Sext a w) = Unit {0}
IsOfTree cell (Select c a b) = ⊥

-- trees have it, its classes are there, and they have the widths that its operator asks for
abbrev pub NodeFits : ℕ → List Class → Node → Type 0
NodeFits cell classes node =
    IsOfTree cell node × AllBelow (length classes) (children_of node) × HeadFits (expr_over classes node)

-- ---- meanings

-- the memory, where each variable has a value
abbrev pub state_of : List ℕ → List ℕ → State
state_of cells regs = record { regs = regs; cells = cells; file = [] }

-- the nodes that are listed, each with its class
abbrev pub Entries : Type 0
Entries = List (Node × ℕ)

-- the class under which a node is listed
abbrev pub listed_at : Entries → Node → Option ℕ
listed_at entries node = lookup (node_eq.eq node) entries

-- the value of the node's class is what the node makes of the values of its classes
pub record NodeMeans (cell : ℕ) (classes : List Class) (cells regs : List ℕ) (node : Node) (c : ℕ) : Type 0 where
  pub fits : NodeFits cell classes node
  pub below : c < length classes
  pub width : expr_width (expr_over classes node) ≡ width_at classes c
  pub value : mean (expr_over classes node) (state_of cells regs) 0 ≡ slice_index regs c

abbrev pub class_head : ℕ → Option Class → ℕ
class_head c None = c
class_head c (Some class) = class.head

-- the class that stands for a class
abbrev pub head_of : List Class → ℕ → ℕ
head_of classes c = class_head c (slice_get classes c)

-- a class that stands for another is there, and has its width and value
pub record HeadMeans (classes : List Class) (regs : List ℕ) (c h : ℕ) : Type 0 where
  pub below : h < length classes
  pub width : width_at classes h ≡ width_at classes c
  pub value : slice_index regs h ≡ slice_index regs c

-- in this memory the classes can have these values
pub record Means (cell : ℕ) (classes : List Class) (entries : Entries) (cells regs : List ℕ) : Type 0 where
  pub cell_width : IsWidth cell
  pub cells_fit : CellsFit cell cells
  pub count : length regs ≡ length classes
  pub widths : (c : ℕ) → c < length classes → IsWidth (width_at classes c)
  pub values : (c : ℕ) → c < length classes → slice_index regs c < 2 ^ width_at classes c
  pub nodes : (node : Node) (c : ℕ) → listed_at entries node ≡ Some c → NodeMeans cell classes cells regs node c
  pub heads : (c : ℕ) → c < length classes → HeadMeans classes regs c (head_of classes c)

-- each class has a meaning: in every memory there are such values
abbrev pub HaveMeanings : ℕ → List Class → Entries → Type 0
HaveMeanings cell classes entries =
    (cells : List ℕ) → CellsFit cell cells → (regs : List ℕ) × Means cell classes entries cells regs

-- ---- joined classes

-- the node over the classes that stand for its own
abbrev pub canon_of : List Class → Node → Node
canon_of classes (Word w) = Word w
canon_of classes (Reg r w) = Reg r w
canon_of classes (Const w v) = Const w v
canon_of classes (Read a w) = Read (head_of classes a) w
canon_of classes (Cell a w) = Cell a w
canon_of classes (Un o a) = Un o (head_of classes a)
canon_of classes (Bin o a b) = Bin o (head_of classes a) (head_of classes b)
canon_of classes (Slice a hi lo) = Slice (head_of classes a) hi lo
canon_of classes (Cat a b) = Cat a b
canon_of classes (Zext a w) = Zext (head_of classes a) w
canon_of classes (Sext a w) = Sext (head_of classes a) w
canon_of classes (Select c a b) = Select c a b

-- the second class stands for every class for which the first stood
pub record Redirected (from to : ℕ) (old new : List Class) : Type 0 where
  pub count : length new ≡ length old
  pub widths : (c : ℕ) → width_at new c ≡ width_at old c
  pub heads : (c : ℕ) → c < length old →
      head_of new c ≡ (if head_of old c == from then to else head_of old c)
