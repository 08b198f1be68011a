-- What a table of classes says of expressions: which are of a class, and which classes are one. A
-- table lists nodes, each an operator over classes, with its class, and joins classes by a head
-- that stands for them. What it takes (`FitsIn`), where a node or a tree is listed (`found_in`,
-- `class_of`), when it means what its class means (`NodeStands`, `Stands`), what joining does
-- (`IsJoined`), and what stays when it grows (`Grows`).
use Rattle.std.specs.Prelude.{ℕ, ◌+◌, ◌^◌, ◌<◌, ◌≤◌, ◌≡◌, ◌==◌, if◌then◌else◌, Bool, false, List, length, Option, Some, None, option_and_then, slice_get, slice_index}
use Rattle.rec_bits.specs.Operators.{IsWidth}
use Rattle.rec_bits.specs.declared.operator.Op1.TheVariants.{Not}
use Rattle.net_model.specs.Exprs.{ExprModel, const, un, bin, slice, zext, sext, expr_width}
use Rattle.net_model.specs.Meaning.{mean}
use Rattle.form_model.specs.Trees.{model_of_tree}
use Rattle.form_model.specs.declared.trees.Tree.{Tree}
use Rattle.form_model.specs.declared.trees.Tree.TheVariants.{Lit, Read', Un', Bin', Slice', Zext', Sext'}
use Rattle.sym_expr.specs.declared.pool.Node.{Node}
use Rattle.sym_expr.specs.declared.pool.Node.TheVariants.{Const, Read, Un, Bin, Slice, Zext, Sext}
use Rattle.sym_expr.specs.Pools.{HeadFits, ExprFits, Suits}
use Rattle.tree_laws.specs.Meanings.{Means, NodeFits, NodeMeans, Redirected, canon_of, class_expr, head_of, listed_at, state_of, expr_over, width_at}
use Rattle.tree_laws.specs.Rules.{expression_at, num_of}
use Rattle.tree_laws.specs.declared.classes.Classes.{Classes}
use Rattle.tree_laws.specs.declared.rules.Num.{Num}
use Rattle.tree_laws.specs.declared.rules.Num.TheVariants.{Lit as Given, Var}
use Rattle.tree_laws.specs.declared.rules.Value.{Value}
use Rattle.tree_laws.specs.declared.rules.Value.TheVariants.{Width, Sum, Power, Apply1, Apply2, Bits, Signed}

-- ---- what a table shows

-- how many bits the cells of the memory have
abbrev pub cell_bits : Classes → ℕ
cell_bits table = table.cell

abbrev pub class_count : Classes → ℕ
class_count table = length table.classes.items

abbrev pub listed_count : Classes → ℕ
listed_count table = length table.nodes.entries

-- the node that was listed at a place, with its class, and the class under which a node is listed
abbrev pub entry_in : Classes → ℕ → Option (Node × ℕ)
entry_in table place = slice_get table.nodes.entries place

abbrev pub listed_in : Classes → Node → Option ℕ
listed_in table node = listed_at table.nodes.entries node

-- the width of a class's trees, and the class that stands for it
abbrev pub width_in : Classes → ℕ → ℕ
width_in table c = width_at table.classes.items c

abbrev pub head_in : Classes → ℕ → ℕ
head_in table c = head_of table.classes.items c

-- a node as an expression over the classes, and over those that stand for its own
abbrev pub expr_in : Classes → Node → ExprModel
expr_in table node = expr_over table.classes.items node

abbrev pub canon_in : Classes → Node → Node
canon_in table node = canon_of table.classes.items node

abbrev pub FitsIn : Classes → Node → Type 0
FitsIn table node = NodeFits table.cell table.classes.items node

-- the class under which a node is listed over the classes that stand for its own
abbrev pub found_in : Classes → Node → Option ℕ
found_in table node = listed_in table (canon_in table node)

-- whether one class stands for both, where there are two
abbrev pub are_joined : Classes → Option ℕ → Option ℕ → Bool
are_joined table None b = false
are_joined table (Some a) None = false
are_joined table (Some a) (Some b) = head_in table a == head_in table b

-- ---- classes of trees

-- the class of a tree: that under which its root is listed over its operands' classes
abbrev pub class_of : Classes → Tree → Option ℕ
class_of table (Lit w v) = found_in table (Const w v)
class_of table (Read' p a w) = option_and_then (λ x. found_in table (Read x w)) (class_of table a)
class_of table (Un' o p a) = option_and_then (λ x. found_in table (Un o x)) (class_of table a)
class_of table (Bin' o p a q b) =
    option_and_then (λ x. option_and_then (λ y. found_in table (Bin o x y)) (class_of table b)) (class_of table a)
class_of table (Slice' p a hi lo) = option_and_then (λ x. found_in table (Slice x hi lo)) (class_of table a)
class_of table (Zext' p a w) = option_and_then (λ x. found_in table (Zext x w)) (class_of table a)
class_of table (Sext' p a w) = option_and_then (λ x. found_in table (Sext x w)) (class_of table a)

-- the class of a test's negation
abbrev pub opposite_of : Classes → Tree → Option ℕ
opposite_of table test =
    option_and_then (λ x. if width_in table x == 1 then found_in table (Un Not x) else None) (class_of table test)

-- the tree's operators get operands of the widths that they ask for, and it reads whole cells
abbrev pub TreeFits : ℕ → Tree → Type 0
TreeFits cell (Lit w v) = HeadFits (const w v)
TreeFits cell (Read' p a w) = TreeFits cell a × (w ≡ cell)
TreeFits cell (Un' o p a) = TreeFits cell a
TreeFits cell (Bin' o p a q b) = TreeFits cell a × TreeFits cell b × HeadFits (bin o (model_of_tree a) (model_of_tree b))
TreeFits cell (Slice' p a hi lo) = TreeFits cell a × HeadFits (slice (model_of_tree a) hi lo)
TreeFits cell (Zext' p a w) = TreeFits cell a × HeadFits (zext (model_of_tree a) w)
TreeFits cell (Sext' p a w) = TreeFits cell a × HeadFits (sext (model_of_tree a) w)

-- the table may have more classes and nodes than before; what was there is as it was
pub record Grows (old new : Classes) : Type 0 where
  pub bits : cell_bits new ≡ cell_bits old
  pub longer : class_count old ≤ class_count new
  pub widths : (c : ℕ) → c < class_count old → width_in new c ≡ width_in old c
  pub heads : (c : ℕ) → c < class_count old → head_in new c ≡ head_in old c
  pub listed : (node : Node) (c : ℕ) → listed_in old node ≡ Some c → listed_in new node ≡ Some c

-- ---- nodes of a class

-- in this memory the table's classes can have these values
abbrev pub TableMeans : Classes → List ℕ → List ℕ → Type 0
TableMeans table cells regs = Means table.cell table.classes.items table.nodes.entries cells regs

-- the node's value is that of the class, whatever the classes mean
abbrev pub IsOfClass : Classes → Node → ℕ → Type 0
IsOfClass table node c =
    (cells regs : List ℕ) → TableMeans table cells regs → NodeMeans table.cell table.classes.items cells regs node c

-- ---- what is in a class

-- the expression is one of the class: it is well typed, has the class's width, and its value
pub record StandsIn (table : Classes) (expr : ExprModel) (c : ℕ) (cells regs : List ℕ) : Type 0 where
  pub below : c < class_count table
  pub width : expr_width expr ≡ width_in table c
  pub fits : ExprFits expr
  pub suits : Suits expr (state_of cells regs) 0
  pub value : mean expr (state_of cells regs) 0 ≡ slice_index regs c

-- it is so whatever the classes mean
abbrev pub Stands : Classes → ExprModel → ℕ → Type 0
Stands table expr c = (cells regs : List ℕ) → TableMeans table cells regs → StandsIn table expr c cells regs

abbrev pub NodeStands : Classes → Node → ℕ → Type 0
NodeStands table node c = Stands table (expr_in table node) c

-- the node is the expression's: where the node is of a class, the expression is
abbrev pub IsNodeOf : Classes → ExprModel → Node → Type 0
IsNodeOf table expr node = (c : ℕ) → NodeStands table node c → Stands table expr c

-- the class has the negation of a test
abbrev pub IsOpposite : Classes → ExprModel → ℕ → Type 0
IsOpposite table test c =
    Stands table (un Not test) c × ((cells regs : List ℕ) → TableMeans table cells regs → expr_width test ≡ 1)

-- the values of a rule's variables as expressions over the classes
abbrev pub tree_at : Classes → List ℕ → ℕ → ExprModel
tree_at table ids x = class_expr table.classes.items (slice_index ids x)

-- each expression is one of its class
pub record AllStand (table : Classes) (exprs : List ExprModel) (ids : List ℕ) : Type 0 where
  pub count : length ids ≡ length exprs
  pub each : (k : ℕ) → k < length ids → Stands table (expression_at exprs k) (slice_index ids k)

-- ---- values of a rule's variables

-- the number is given, or its variable has a value
abbrev pub IsGiven : List ℕ → Num → Type 0
IsGiven numbers (Given v) = Unit {0}
IsGiven numbers (Var x) = x < length numbers

-- and fits so many bits
abbrev pub FitsWidth : List ℕ → Num → Num → Type 0
FitsWidth numbers width num =
    IsGiven numbers num × (num_of (slice_index numbers) num < 2 ^ num_of (slice_index numbers) width)

-- the numbers that make a value are given, each fits its width, and the value fits 64 bits
abbrev pub HasValue : Classes → List ℕ → List ℕ → Value → Type 0
HasValue table ids numbers (Width x) = (x < length ids) × (slice_index ids x < class_count table)
HasValue table ids numbers (Sum a b) =
    IsGiven numbers a × IsGiven numbers b × (num_of (slice_index numbers) a + num_of (slice_index numbers) b < 2 ^ 64)
HasValue table ids numbers (Power k) = IsGiven numbers k × (num_of (slice_index numbers) k < 64)
HasValue table ids numbers (Apply1 o w a) =
    IsGiven numbers w × IsWidth (num_of (slice_index numbers) w) × FitsWidth numbers w a
HasValue table ids numbers (Apply2 o w a b) =
    IsGiven numbers w × IsWidth (num_of (slice_index numbers) w) × FitsWidth numbers w a × FitsWidth numbers w b
HasValue table ids numbers (Bits a hi lo) =
    IsGiven numbers a × IsGiven numbers hi × IsGiven numbers lo
    × (num_of (slice_index numbers) lo ≤ num_of (slice_index numbers) hi) × (num_of (slice_index numbers) hi < 64)
HasValue table ids numbers (Signed a from to) =
    IsGiven numbers from × IsGiven numbers to × IsWidth (num_of (slice_index numbers) from)
    × IsWidth (num_of (slice_index numbers) to) × (num_of (slice_index numbers) from ≤ num_of (slice_index numbers) to)
    × FitsWidth numbers from a

-- ---- classes that are one

-- two classes of one width and one value, whatever the classes mean
pub record IsSameIn (table : Classes) (a b : ℕ) (regs : List ℕ) : Type 0 where
  pub first : a < class_count table
  pub second : b < class_count table
  pub width : width_in table a ≡ width_in table b
  pub value : slice_index regs a ≡ slice_index regs b

abbrev pub AreOne : Classes → ℕ → ℕ → Type 0
AreOne table a b = (cells regs : List ℕ) → TableMeans table cells regs → IsSameIn table a b regs

-- the first one stands for every class for which the second stood, and nothing else is changed
pub record IsJoined (a b : ℕ) (old new : Classes) : Type 0 where
  pub bits : cell_bits new ≡ cell_bits old
  pub nodes : new.nodes.entries ≡ old.nodes.entries
  pub heads : Redirected (head_in old b) (head_in old a) old.classes.items new.classes.items
