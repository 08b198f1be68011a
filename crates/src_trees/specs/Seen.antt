-- Programs and the memory that holds their variables: the store that is seen there, and when a tree
-- reads nothing below an address.
use Rattle.std.specs.Prelude.{ℕ, ◌+◌, ◌^◌, ◌≡◌, ◌<◌, ◌≤◌, true, List, [], slice_index}
use Rattle.net_model.specs.declared.hardware.Space.TheVariants.{Memory as InMemory, File as InFile}
use Rattle.net_model.specs.Exprs.{ExprModel, word, reg, const, read, un, bin, slice, cat, zext, sext, select}
use Rattle.net_model.specs.Meaning.{mean}
use Rattle.src_model.specs.declared.program.Var.{Var as Declared}
use Rattle.src_model.specs.Meaning.{cell_count}
use Rattle.code_model.specs.Places.{cells_at, places_from}
use Rattle.code_model.specs.Layout.{variables_of}
use Rattle.src_model.specs.Written.{SrcNodeModel, SrcExprModel, SpotModel, SrcTestModel}
use Rattle.src_model.specs.Loops.{place_shape}
use Rattle.src_model.specs.Fitting.{Fitting, FitsSides}
use Rattle.src_model.specs.Inside.{Known, is_inside, test_inside}
use Rattle.src_trees.specs.Lowered.{MemoryMap}

-- the memory that holds these variables from an address on
abbrev pub memory_map : ℕ → ℕ → ℕ → List Declared → MemoryMap
memory_map bits addr temps vars = record { word = bits; addr = addr; places = places_from temps (variables_of vars) }

-- the store that it holds
abbrev pub seen_store : MemoryMap → List ℕ → List ℕ
seen_store m cells = cells_at m.places cells

-- the value of a tree over the cells of the memory
abbrev pub tree_value : List ℕ → ExprModel → ℕ
tree_value cells t = mean t (record { regs = []; cells = cells; file = [] }) 0

-- the tree reads no cell below an address, and no register file
abbrev pub ReadsCells : ℕ → List ℕ → ExprModel → Type 0
ReadsCells at cells (word w) = Unit {0}
ReadsCells at cells (reg r w) = Unit {0}
ReadsCells at cells (const w v) = Unit {0}
ReadsCells at cells (read InMemory a w) = ReadsCells at cells a × (at ≤ tree_value cells a)
ReadsCells at cells (read InFile a w) = ⊥
ReadsCells at cells (un o a) = ReadsCells at cells a
ReadsCells at cells (bin o a b) = ReadsCells at cells a × ReadsCells at cells b
ReadsCells at cells (slice a hi lo) = ReadsCells at cells a
ReadsCells at cells (cat a b) = ReadsCells at cells a × ReadsCells at cells b
ReadsCells at cells (zext a w) = ReadsCells at cells a
ReadsCells at cells (sext a w) = ReadsCells at cells a
ReadsCells at cells (select c a b) = ReadsCells at cells c × ReadsCells at cells a × ReadsCells at cells b

-- the variables have their cells in reach of an address
pub record InReach (bits addr temps : ℕ) (vars : List Declared) : Type 0 where
  pub some : 1 ≤ addr
  pub narrow : addr ≤ bits
  pub reach : temps + cell_count vars ≤ 2 ^ addr

-- ---- what keeps the rules, in a store; the laws of trees speak of these

-- an expression, of which a literal has this width
pub record CanRead (bits : ℕ) (vars : List Declared) (store : List ℕ) (asked : ℕ) (e : SrcNodeModel) : Type 0 where
  pub fits : Fitting bits asked e
  pub known : Known vars e
  pub inside : is_inside bits vars store e ≡ true

pub record CanAssign (bits : ℕ) (vars : List Declared) (store : List ℕ) (place : SpotModel) (e : SrcExprModel) : Type 0 where
  pub left : CanRead bits vars store bits (place_shape place)
  pub right : CanRead bits vars store bits e.shape

pub record CanTest (bits : ℕ) (vars : List Declared) (store : List ℕ) (test : SrcTestModel) : Type 0 where
  pub words : (cell : ℕ) → slice_index store cell < 2 ^ bits
  pub sides : FitsSides bits test.left.shape test.right.shape
  pub left_known : Known vars test.left.shape
  pub right_known : Known vars test.right.shape
  pub inside : test_inside bits vars test store ≡ true
