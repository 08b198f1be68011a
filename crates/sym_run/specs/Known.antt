-- What is known of a machine's state, by classes of trees over one memory, the store at the mark where
-- a segment begins. It stands for a state where each class that it gives has what the state holds.
use Rattle.std.specs.Prelude.{◌==◌, if◌then◌else◌, ℕ, ◌≡◌, ◌<◌, ◌≤◌, length, List, [], ◌∷◌, Option, Some, None, slice_get, slice_index}
use Rattle.net_model.specs.declared.states.State.{State}
use Rattle.net_model.specs.Exprs.{ExprModel, expr_width}
use Rattle.net_model.specs.Meaning.{mean}
use Rattle.tree_laws.specs.declared.classes.Classes.{Classes}
use Rattle.tree_laws.specs.Classes.{cell_bits}
use Rattle.tree_laws.specs.Equal.{CellsFit}
use Rattle.class_values.specs.Values.{AreFacts, AreSame, Holds, HoldsWide}
use Rattle.class_values.specs.declared.facts.Fact.{Fact}
use Rattle.sym_run.specs.declared.known.Element.{Element}
use Rattle.sym_run.specs.declared.known.Known.{Known}
use Rattle.sym_run.specs.declared.known.Put.{Put}
use Rattle.sym_run.specs.declared.known.Cell.{Cell}
use Rattle.sym_run.specs.declared.known.Cell.TheVariants.{Unknown, Kept, Array, Is}

-- ---- states

-- the class that may be given has this value
abbrev pub HoldsOf : Classes → List ℕ → Option ℕ → ℕ → Type 0
HoldsOf table memory None n = Unit {0}
HoldsOf table memory (Some c) n = Holds table memory c n

-- an entry, and unknown past the last
abbrev pub entry_of : Option (Option ℕ) → Option ℕ
entry_of None = None
entry_of (Some o) = o

abbrev pub entry : List (Option ℕ) → ℕ → Option ℕ
entry known k = entry_of (slice_get known k)

abbrev pub cell_of : Option Cell → Cell
cell_of None = Unknown
cell_of (Some cell) = cell

abbrev pub cell_at : List Cell → ℕ → Cell
cell_at known a = cell_of (slice_get known a)

-- what is known of the cell at an address, where a memory holds this number and the mark's store that
abbrev pub CellStands : Classes → List ℕ → Cell → ℕ → ℕ → Type 0
CellStands table memory Unknown n old = Unit {0}
CellStands table memory Kept n old = n ≡ old
CellStands table memory Array n old = Unit {0}
CellStands table memory (Is c) n old = Holds table memory c n

-- the classes' value is the address of an array's cell
pub record IsInside (table : Classes) (memory : List ℕ) (cells : List Cell) (element : Element) : Type 0 where
  pub address : ℕ
  pub holds : Holds table memory element.class address
  pub alike : Holds table memory element.like address
  pub array : cell_at cells address ≡ Array
  pub behind : element.first ≤ address
  pub within : address < element.end

-- so is that of each class of a list
abbrev pub AreInside : Classes → List ℕ → List Cell → List Element → Type 0
AreInside table memory cells [] = Unit {0}
AreInside table memory cells (element ∷ elements) =
    IsInside table memory cells element × AreInside table memory cells elements

-- ---- writes to arrays

-- their numbers
pub record Wrote : Type 0 where
  pub address : ℕ
  pub value : ℕ

-- what the cell of an address holds after some writes
abbrev pub value_after : List Wrote → ℕ → ℕ → ℕ
value_after [] a old = old
value_after (one ∷ log) a old = value_after log a (if one.address == a then one.value else old)

-- the classes have these numbers
abbrev pub HaveWritten : Classes → List ℕ → List Put → List Wrote → Type 0
HaveWritten table memory [] [] = Unit {0}
HaveWritten table memory (put ∷ puts) (one ∷ log) =
    Holds table memory put.address one.address × Holds table memory put.value one.value
    × HaveWritten table memory puts log
HaveWritten table memory _ _ = ⊥

-- so each array's cell of a memory holds what is there after the writes
pub record ArraysStand (table : Classes) (memory : List ℕ) (cells : List Cell) (puts : List Put)
    (held : List ℕ) : Type 0 where
  pub log : List Wrote
  pub wrote : HaveWritten table memory puts log
  pub are : (a : ℕ) → cell_at cells a ≡ Array → slice_index held a ≡ value_after log a (slice_index memory a)

-- the same was written
abbrev pub ArePutsSame : Classes → List Put → List Put → Type 0
ArePutsSame table [] [] = Unit {0}
ArePutsSame table (p ∷ ps) (q ∷ qs) = AreSame table p.address q.address × AreSame table p.value q.value
    × ArePutsSame table ps qs
ArePutsSame table _ _ = ⊥

-- ---- the register file

-- what is known of the register file's cells stands for what they hold: each cell of which a class is
-- known is there, and holds the class's value
pub record FileStands (table : Classes) (memory : List ℕ) (known : List (Option ℕ)) (held : List ℕ) : Type 0 where
  pub there : length known ≤ length held
  pub are : (a : ℕ) → HoldsOf table memory (entry known a) (slice_index held a)

-- ---- all of it

-- what is known stands for the state, where the mark's store is the memory
pub record StandsFor (table : Classes) (memory : List ℕ) (known : Known) (s : State) : Type 0 where
  pub fits : CellsFit (cell_bits table) memory
  pub room : length known.cells ≤ length s.cells
  pub regs : (r : ℕ) → HoldsOf table memory (entry known.regs r) (slice_index s.regs r)
  pub cells : (a : ℕ) → CellStands table memory (cell_at known.cells a) (slice_index s.cells a) (slice_index memory a)
  pub inside : AreInside table memory known.cells known.inside
  pub arrays : ArraysStand table memory known.cells known.puts s.cells
  pub file : FileStands table memory known.file s.file

-- ---- values

-- wherever the facts hold, and for every state that what is known stands for, the class of the new
-- table has the expression's width, and its value under the word
abbrev pub Evaluates : Classes → Classes → List Fact → Known → ℕ → ExprModel → ℕ → Type 0
Evaluates old new facts known word expr c =
    (memory : List ℕ) (s : State) → AreFacts old memory facts → StandsFor old memory known s →
    HoldsWide new memory c (expr_width expr) (mean expr s word)
