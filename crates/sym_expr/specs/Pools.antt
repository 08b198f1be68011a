-- What a pool says: the list of its nodes, where a node's place is its id. An id's expression goes
-- by the node at its place and those of earlier places. A node's operator gets operands of the
-- widths that it asks for, and no two nodes are equal.
use Rattle.std.specs.Prelude.{◌≡◌, ◌↔◌, ℕ, ◌+◌, ◌^◌, ◌<◌, ◌≤◌, ◌==◌, if◌then◌else◌, List, [], ◌∷◌, ◌++◌, length, reverse, slice_get, slice_index, Some}
use Rattle.std.specs.List.{AllByRecursion}
use Rattle.net_model.specs.declared.hardware.Space.TheVariants.{Memory as InMemory}
use Rattle.net_model.specs.Nets.{held}
use Rattle.net_model.specs.Exprs.{ExprModel, expr_width, word, reg, const, read, cell, un, bin, slice, cat, zext, sext, select}
use Rattle.net_model.specs.Meaning.{mean}
use Rattle.net_model.specs.declared.states.State.{State}
use Rattle.sym_expr.specs.declared.pool.Node.{Node}
use Rattle.sym_expr.specs.declared.pool.Node.TheVariants.{Word, Reg, Const, Read, Cell, Un, Bin, Slice, Cat, Zext, Sext, Select}

-- the expression of a node, by those of earlier ids
abbrev pub node_expr : Node → (ℕ → ExprModel) → ExprModel
node_expr (Word w) t = word w
node_expr (Reg r w) t = reg r w
node_expr (Const w v) t = const w v
node_expr (Read a w) t = read InMemory (t a) w
node_expr (Cell a w) t = cell (t a) w
node_expr (Un o a) t = un o (t a)
node_expr (Bin o a b) t = bin o (t a) (t b)
node_expr (Slice a h l) t = slice (t a) h l
node_expr (Cat a b) t = cat (t a) (t b)
node_expr (Zext a w) t = zext (t a) w
node_expr (Sext a w) t = sext (t a) w
node_expr (Select c a b) t = select (t c) (t a) (t b)

-- the ids that a node names
abbrev pub children_of : Node → List ℕ
children_of (Word w) = []
children_of (Reg r w) = []
children_of (Const w v) = []
children_of (Read a w) = a ∷ []
children_of (Cell a w) = a ∷ []
children_of (Un o a) = a ∷ []
children_of (Bin o a b) = a ∷ b ∷ []
children_of (Slice a h l) = a ∷ []
children_of (Cat a b) = a ∷ b ∷ []
children_of (Zext a w) = a ∷ []
children_of (Sext a w) = a ∷ []
children_of (Select c a b) = c ∷ a ∷ b ∷ []

-- each number is below this one
abbrev pub AllBelow : ℕ → List ℕ → Type 0
AllBelow n is = AllByRecursion (λ i. i < n) is

-- the expression of an id, where the newest node comes first
unfoldable pub expr_of_newest : List Node → ℕ → ExprModel
expr_of_newest [] id = word 0
expr_of_newest (node ∷ older) id =
    if id == length older then node_expr node (expr_of_newest older) else expr_of_newest older id

-- the expression of an id
unfoldable pub expr_of_id : List Node → ℕ → ExprModel
expr_of_id nodes id = expr_of_newest (reverse nodes) id

-- the new pool has the old one's nodes first
pub record Grows (old new : List Node) : Type 0 where
  pub more : List Node
  pub nodes : new ≡ old ++ more
  pub longer : length old ≤ length new

-- the operator at the head gets operands of the widths that it asks for
abbrev pub HeadFits : ExprModel → Type 0
HeadFits (word w) = (1 ≤ w) × (w ≤ 64)
HeadFits (reg r w) = (1 ≤ w) × (w ≤ 64)
HeadFits (const w v) = (1 ≤ w) × (w ≤ 64) × (v < 2 ^ w)
HeadFits (read space a w) = (1 ≤ w) × (w ≤ 64)
HeadFits (un o a) = Unit {0}
HeadFits (bin o a b) = expr_width b ≡ expr_width a
HeadFits (slice a h l) = (l ≤ h) × (h < expr_width a)
HeadFits (cat a b) = expr_width a + expr_width b ≤ 64
HeadFits (zext a w) = (expr_width a < w) × (w ≤ 64)
HeadFits (sext a w) = (expr_width a < w) × (w ≤ 64)
HeadFits (select c a b) = (expr_width c ≡ 1) × (expr_width b ≡ expr_width a)

-- each operator of an expression does
abbrev pub ExprFits : ExprModel → Type 0
ExprFits (word w) = HeadFits (word w)
ExprFits (reg r w) = HeadFits (reg r w)
ExprFits (const w v) = HeadFits (const w v)
ExprFits (read space a w) = ExprFits a × HeadFits (read space a w)
ExprFits (un o a) = ExprFits a
ExprFits (bin o a b) = ExprFits a × ExprFits b × HeadFits (bin o a b)
ExprFits (slice a h l) = ExprFits a × HeadFits (slice a h l)
ExprFits (cat a b) = ExprFits a × ExprFits b × HeadFits (cat a b)
ExprFits (zext a w) = ExprFits a × HeadFits (zext a w)
ExprFits (sext a w) = ExprFits a × HeadFits (sext a w)
ExprFits (select c a b) = ExprFits c × ExprFits a × ExprFits b × HeadFits (select c a b)

-- the state's values and the word fit where an expression names them
abbrev pub Suits : ExprModel → State → ℕ → Type 0
Suits (word w) s i = i < 2 ^ w
Suits (reg r w) s i = slice_index s.regs r < 2 ^ w
Suits (const w v) s i = Unit {0}
Suits (read space a w) s i = Suits a s i × (slice_index (held s space) (mean a s i) < 2 ^ w)
Suits (un o a) s i = Suits a s i
Suits (bin o a b) s i = Suits a s i × Suits b s i
Suits (slice a h l) s i = Suits a s i
Suits (cat a b) s i = Suits a s i × Suits b s i
Suits (zext a w) s i = Suits a s i
Suits (sext a w) s i = Suits a s i
Suits (select c a b) s i = Suits c s i × Suits a s i × Suits b s i

-- the parts of each node come before it, its expression fits, and no two nodes are equal
pub record IsPool (nodes : List Node) : Type 0 where
  pub below : (place : ℕ) (node : Node) → slice_get nodes place ≡ Some node → AllBelow place (children_of node)
  pub fits : (id : ℕ) → id < length nodes → ExprFits (expr_of_id nodes id)
  pub distinct : (i j : ℕ) (node : Node) → slice_get nodes i ≡ Some node → slice_get nodes j ≡ Some node → i ≡ j

-- ids are equal exactly where their expressions are
abbrev pub IsOneEach : List Node → Type 0
IsOneEach nodes = (i j : ℕ) → i < length nodes → j < length nodes → (expr_of_id nodes i ≡ expr_of_id nodes j) ↔ (i ≡ j)

-- the new pool changes no old id's expression
abbrev pub KeepsExprs : List Node → List Node → Type 0
KeepsExprs old new = (id : ℕ) → id < length old → expr_of_id new id ≡ expr_of_id old id
