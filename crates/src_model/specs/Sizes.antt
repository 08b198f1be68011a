-- The sizes of a program: its statements, the nodes of its trees, and the temporary cells that the
-- trees may need.
use Rattle.std.specs.Prelude.{ℕ, ◌+◌, ◌*◌, max, unwrap_or, Bool, true, false, ◌==◌, if◌then◌else◌, List, [], ◌∷◌, ◌++◌, Option, Some, None}
use Rattle.rec_bits.specs.Operators.{result_width}
use Rattle.rec_bits.specs.declared.operator.Op2.TheVariants.{Add}
use Rattle.rec_bits.specs.Counts.{capped}
use Rattle.src_model.specs.declared.program.Cmp.{Cmp}
use Rattle.src_model.specs.declared.program.Cmp.TheVariants.{Eq, Ne}
use Rattle.src_model.specs.declared.program.Var.{Var as Declared}
use Rattle.src_model.specs.declared.sizes.Subtree.{Subtree}
use Rattle.src_model.specs.declared.sizes.Sizes.{Sizes}
use Rattle.src_model.specs.Written.{SrcNodeModel, num, plain, element, un, bin, zext, sext, low, SrcExprModel, SrcTestModel, StmtModel, assign, choice, while, count, StmtsModel, no_acts, act, ElseModel, without, otherwise}
use Rattle.src_model.specs.Widths.{is_literal}
use Rattle.src_model.specs.Indexes.{number_of}

-- ---- trees

-- a tree, by the expressions that it is made from
pub data Root : Type 0 where
  -- that of an expression
  value : SrcNodeModel → Root
  -- a store: the index, and the value
  store : SrcNodeModel → SrcNodeModel → Root
  -- a comparison of the two sides
  compare : SrcNodeModel → SrcNodeModel → Root
  -- a comparison of their difference with 0
  difference : SrcNodeModel → SrcNodeModel → Root

-- a cell whose address is a number takes its value like a variable
abbrev pub indexed_root : Option ℕ → SrcNodeModel → SrcNodeModel → Root
indexed_root (Some n) x e = value e
indexed_root None x e = store x e

abbrev pub assigned_root : Option SrcExprModel → SrcNodeModel → Root
assigned_root None e = value e
assigned_root (Some x) e = indexed_root (number_of x.shape) x.shape e

-- a test for equality has two trees
abbrev pub compared : Cmp → SrcNodeModel → SrcNodeModel → List Root
compared Eq x y = compare x y ∷ difference x y ∷ []
compared Ne x y = compare x y ∷ difference x y ∷ []
compared cmp x y = compare x y ∷ []

abbrev pub tested_roots : SrcTestModel → List Root
tested_roots test = compared test.cmp test.left.shape test.right.shape

-- before the body of a `for` its counter is set and compared with the number past the last one, and
-- behind the body 1 is added
abbrev pub start_roots : List ℕ → ℕ → ℕ → ℕ → List Root
start_roots counter at from to = value (num from) ∷ compared Ne (plain counter at) (num (to + 1))

abbrev pub step_roots : List ℕ → ℕ → List Root
step_roots counter at = value (bin Add at (plain counter at) at (num 1)) ∷ []

abbrev mutual
  -- all trees of a statement, in the order of the text
  pub roots : StmtModel → List Root
  roots (assign place e) = assigned_root place.index e.shape ∷ []
  roots (choice test taken other) = tested_roots test ++ roots_in taken ++ roots_else other
  roots (while test body) = tested_roots test ++ roots_in body
  roots (count counter at from to body) = start_roots counter at from to ++ roots_in body ++ step_roots counter at

  pub roots_in : StmtsModel → List Root
  roots_in no_acts = []
  roots_in (act a rest) = roots a ++ roots_in rest

  pub roots_else : ElseModel → List Root
  roots_else without = []
  roots_else (otherwise body) = roots_in body

abbrev pub greatest : (Root → ℕ) → List Root → ℕ
greatest f [] = 0
greatest f (r ∷ rest) = max (f r) (greatest f rest)

-- ---- nodes

-- a read at a literal address is one node; any other has its address: a slice of a sum of the index
-- and the array's address
abbrev pub read_nodes : Option ℕ → ℕ → ℕ
read_nodes (Some n) index = 1
read_nodes None index = 4 + index

abbrev pub nodes : SrcNodeModel → ℕ
nodes (num n) = 1
nodes (plain name at) = 1
nodes (element name at to x) = read_nodes (number_of x) (nodes x)
nodes (un op at x) = 1 + nodes x
nodes (bin op at x to y) = 1 + nodes x + nodes y
nodes (zext at x width) = 1 + nodes x
nodes (sext at x width) = 1 + nodes x
nodes (low at x width) = 1 + nodes x

abbrev pub nodes_of : Root → ℕ
nodes_of (value e) = nodes e
nodes_of (store x e) = 4 + nodes x + nodes e
nodes_of (compare x y) = 1 + nodes x + nodes y
nodes_of (difference x y) = 3 + nodes x + nodes y

-- ---- temporary cells

-- 1 for a node of a word's width
abbrev pub is_word : ℕ → ℕ → ℕ
is_word word width = if width == word then 1 else 0

abbrev pub node : ℕ → ℕ → ℕ → Subtree
node word width below = record { width = width; own = is_word word width; below = below }

abbrev pub all_of : Subtree → ℕ
all_of p = p.own + p.below

-- the address of a read that isn't at a literal address has a sum and the array's address besides
-- the index
abbrev pub read_part : ℕ → Option ℕ → Subtree → Subtree
read_part word (Some n) index = record { width = word; own = 0; below = 0 }
read_part word None index = node word word (2 + all_of index)

-- two operands: their width, and the nodes of both
abbrev pub paired : ℕ → Subtree → Subtree → Subtree
paired width left right = record { width = width; own = 0; below = all_of left + all_of right }

-- a literal has the width of the other operand
abbrev pub sided : Bool → Subtree → Subtree → (ℕ → Subtree) → (ℕ → Subtree) → Subtree
sided true left right left_at right_at = paired right.width (left_at right.width) right
sided false left right left_at right_at = paired left.width left (right_at left.width)

-- of an expression, given the width of a word and that asked of a literal
abbrev pub part : ℕ → ℕ → SrcNodeModel → Subtree
part word asked (num n) = node word asked 0
part word asked (plain name at) = record { width = word; own = 0; below = 0 }
part word asked (element name at to x) = read_part word (number_of x) (part word word x)
part word asked (un op at x) = node word (part word asked x).width (all_of (part word asked x))
part word asked (bin op at x to y) = node word
    (result_width op (sided (is_literal x) (part word word x) (part word word y)
    (λ width. part word width x) (λ width. part word width y)).width)
    (sided (is_literal x) (part word word x) (part word word y) (λ width. part word width x)
    (λ width. part word width y)).below
part word asked (zext at x width) = node word width (all_of (part word word x))
part word asked (sext at x width) = node word width (all_of (part word word x))
part word asked (low at x width) = node word width (all_of (part word word x))

abbrev pub side_parts : ℕ → SrcNodeModel → SrcNodeModel → Subtree
side_parts word x y =
    sided (is_literal x) (part word word x) (part word word y) (λ width. part word width x)
    (λ width. part word width y)

-- the nodes of a word's width below the root
abbrev pub temps_of : ℕ → Root → ℕ
temps_of word (value e) = (part word word e).below
temps_of word (store x e) = 2 + all_of (part word word x) + all_of (part word word e)
temps_of word (compare x y) = (side_parts word x y).below
temps_of word (difference x y) = (side_parts word x y).below + 2 * is_word word (side_parts word x y).width

-- ---- statements

abbrev mutual
  -- assignments and tests, with three for each `for`
  pub statements : StmtModel → ℕ
  statements (assign place e) = 1
  statements (choice test taken other) = 1 + statements_in taken + statements_else other
  statements (while test body) = 1 + statements_in body
  statements (count counter at from to body) = 3 + statements_in body

  pub statements_in : StmtsModel → ℕ
  statements_in no_acts = 0
  statements_in (act a rest) = statements a + statements_in rest

  pub statements_else : ElseModel → ℕ
  statements_else without = 0
  statements_else (otherwise body) = statements_in body

-- ---- declarations

-- the greatest length of an array
abbrev pub longest : List Declared → ℕ
longest [] = 0
longest (v ∷ rest) = max (unwrap_or v.len 0) (longest rest)

abbrev pub capped_part : Subtree → Subtree
capped_part p = record { width = p.width; own = p.own; below = capped p.below }

-- the sizes of so many statements with these trees
abbrev pub measured : ℕ → List Root → ℕ → Sizes
measured word trees n = record {
  statements = capped n;
  nodes = capped (greatest nodes_of trees);
  temps = capped (greatest (temps_of word) trees);
}

-- the sizes of some statements and some more
abbrev pub together : Sizes → Sizes → Sizes
together a b = record {
  statements = capped (a.statements + b.statements);
  nodes = max a.nodes b.nodes;
  temps = max a.temps b.temps;
}
