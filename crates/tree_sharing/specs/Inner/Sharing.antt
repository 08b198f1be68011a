-- Roots of trees among numbered ones, and what is known of the numbers on the way.
use Rattle.std.specs.Prelude.{ℕ, ◌+◌, ◌<◌, ◌≤◌, ◌≡◌, List, [], Option, Some, None, slice_get}
use Rattle.std.specs.Borrow.{Bor}
use Rattle.net_model.specs.declared.hardware.Space.TheVariants.{Memory as InMemory}
use Rattle.net_model.specs.Exprs.{ExprModel, const, read, un, bin, slice, zext, sext, size_of}
use Rattle.form_model.specs.Trees.{model_of_tree}
use Rattle.form_model.specs.declared.trees.Tree.{Tree}
use Rattle.form_model.specs.Forms.{DestinationModel, into, filed, cell, stored, temporary, tested}
use Rattle.tree_grammar.specs.Numbers.{subtrees, HoldsSubtrees}
use Rattle.tree_sharing.specs.Sharing.{IsFirst}
use Rattle.tree_sharing.specs.Inner.Entries.{EachEntry, AnyKey}
use Rattle.tree_sharing.specs.declared.sharing.Root.{Root}
use Rattle.tree_sharing.specs.declared.sharing.Root.TheVariants.{Lit, Read, Un, Bin, Slice, Zext, Sext}
use Rattle.tree_sharing.specs.declared.sharing.Sharing.{Sharing}

-- the root of a tree: its operator, with the least number of each operand
abbrev pub IsRootOf : List ExprModel → Root → ExprModel → Type 0
IsRootOf nodes root (const w v) = root ≡ Lit w v
IsRootOf nodes root (read InMemory x w) = (a : ℕ) × IsFirst nodes x a × (root ≡ Read a w)
IsRootOf nodes root (un op x) = (a : ℕ) × IsFirst nodes x a × (root ≡ Un op a)
IsRootOf nodes root (bin op x y) =
    (a : ℕ) × (b : ℕ) × IsFirst nodes x a × IsFirst nodes y b × (root ≡ Bin op a b)
IsRootOf nodes root (slice x hi lo) = (a : ℕ) × IsFirst nodes x a × (root ≡ Slice a hi lo)
IsRootOf nodes root (zext x w) = (a : ℕ) × IsFirst nodes x a × (root ≡ Zext a w)
IsRootOf nodes root (sext x w) = (a : ℕ) × IsFirst nodes x a × (root ≡ Sext a w)
IsRootOf nodes root _ = ⊥

-- ---- the roots that were met, with their numbers

abbrev pub Roots : Type 0
Roots = List (Root × ℕ)

-- a root has the least number of its tree
pub record HasNumber (nodes : List ExprModel) (root : Root) (n : ℕ) : Type 0 where
  pub tree : ExprModel
  pub is : IsRootOf nodes root tree
  pub first : IsFirst nodes tree n

abbrev pub HaveNumbers : List ExprModel → Roots → Type 0
HaveNumbers nodes roots = EachEntry (HasNumber nodes) roots

-- the root of the tree is among them
abbrev pub IsMet : List ExprModel → Roots → ExprModel → Type 0
IsMet nodes roots t = AnyKey (λ root. IsRootOf nodes root t) roots

-- the roots with that of a tree, whose least number this is
pub record IsMetFirst (nodes : List ExprModel) (old new : Roots) (t : ExprModel) (first : ℕ) : Type 0 where
  pub numbers : HaveNumbers nodes new
  pub kept : (u : ExprModel) → IsMet nodes old u → IsMet nodes new u
  pub met : IsMet nodes new t
  pub is : IsFirst nodes t first

-- the same of the tree of number `at`, which has this root; no equal one stands before it but those
-- that were met
abbrev pub MeetsFirst : Roots → Roots → ℕ → Root → ℕ → Type 0
MeetsFirst old new at root first =
    (nodes : List ExprModel) (t : ExprModel) → slice_get nodes at ≡ Some t → IsRootOf nodes root t →
    HaveNumbers nodes old → ((m : ℕ) → m < at → slice_get nodes m ≡ Some t → IsMet nodes old t) →
    IsMetFirst nodes old new t first

-- ---- what is known on the way

-- the tree of the number was met, and the number has the least one of an equal tree
pub record IsDone (nodes : List ExprModel) (sharing : Sharing) (n : ℕ) : Type 0 where
  pub met : (t : ExprModel) → slice_get nodes n ≡ Some t → IsMet nodes sharing.roots.entries t
  pub first : (f : ℕ) (t : ExprModel) → slice_get sharing.firsts.items n ≡ Some f → slice_get nodes n ≡ Some t → IsFirst nodes t f

-- all numbers before `at` are done but those of trees of more nodes, among them the trees around
abbrev pub AreDoneBefore : List ExprModel → Sharing → ℕ → ℕ → Type 0
AreDoneBefore nodes sharing at size =
    (m : ℕ) (t : ExprModel) → m < at → slice_get nodes m ≡ Some t → size_of t ≤ size → IsDone nodes sharing m

-- all numbers below `n` are done
pub record AreDoneBelow (nodes : List ExprModel) (sharing : Sharing) (n : ℕ) : Type 0 where
  pub numbers : HaveNumbers nodes sharing.roots.entries
  pub done : (m : ℕ) → m < n → IsDone nodes sharing m

-- what is known stays known
pub record Grows (nodes : List ExprModel) (old new : Sharing) : Type 0 where
  pub numbers : HaveNumbers nodes new.roots.entries
  pub kept : (n : ℕ) → IsDone nodes old n → IsDone nodes new n

-- the tree of number `at` is done, and this is its least number
pub record IsShared (nodes : List ExprModel) (old new : Sharing) (at : ℕ) (t : ExprModel) (first : ℕ) : Type 0 where
  pub grows : Grows nodes old new
  pub done : (n : ℕ) → at ≤ n → n < at + size_of t → IsDone nodes new n
  pub is : IsFirst nodes t first

-- the number `at` is done, whose tree has this root, and this is the least number of the tree
abbrev pub Rooted : Sharing → Sharing → ℕ → Root → ℕ → Type 0
Rooted old new at root first =
    (nodes : List ExprModel) (t : ExprModel) → slice_get nodes at ≡ Some t → IsRootOf nodes root t →
    HaveNumbers nodes old.roots.entries → AreDoneBefore nodes old at (size_of t) →
    Grows nodes old new × IsDone nodes new at × IsFirst nodes t first

-- the tree is done whose subtrees stand from `at` on
abbrev pub Shared : Sharing → Sharing → ℕ → ExprModel → ℕ → Type 0
Shared old new at t first =
    (nodes : List ExprModel) → HoldsSubtrees nodes at t → HaveNumbers nodes old.roots.entries →
    AreDoneBefore nodes old at (size_of t) → IsShared nodes old new at t first

-- ---- operands

abbrev pub first_of : ExprModel → Option ExprModel
first_of (read InMemory a w) = Some a
first_of (un op a) = Some a
first_of (bin op a b) = Some a
first_of (slice a hi lo) = Some a
first_of (zext a w) = Some a
first_of (sext a w) = Some a
first_of _ = None

abbrev pub second_of : ExprModel → Option ExprModel
second_of (bin op a b) = Some b
second_of _ = None

-- what an operand stands for
abbrev pub operand_expr : Option (Bor Tree) → Option ExprModel
operand_expr None = None
operand_expr (Some tree) = Some (model_of_tree tree.now)

abbrev pub operand_size : Option ExprModel → ℕ
operand_size None = 0
operand_size (Some t) = size_of t

abbrev pub operand_subtrees : Option ExprModel → List ExprModel
operand_subtrees None = []
operand_subtrees (Some t) = subtrees t

-- the subtrees of a store's address
abbrev pub address_nodes : DestinationModel → List ExprModel
address_nodes (stored address) = subtrees address
address_nodes (into id) = []
address_nodes filed = []
address_nodes (cell address) = []
address_nodes temporary = []
address_nodes tested = []

-- the least numbers of the tree's operands
abbrev pub AreFirstOperands : List ExprModel → ExprModel → ℕ → ℕ → Type 0
AreFirstOperands nodes t first second =
    ((a : ExprModel) → first_of t ≡ Some a → IsFirst nodes a first)
    × ((b : ExprModel) → second_of t ≡ Some b → IsFirst nodes b second)

-- an operand is done, where there is one
abbrev pub OperandShared : Sharing → Sharing → ℕ → Option ExprModel → ℕ → Type 0
OperandShared old new at None first = new ≡ old
OperandShared old new at (Some t) first = Shared old new at t first
