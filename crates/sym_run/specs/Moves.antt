-- What a word does, as a list of moves: what a register takes, or the memory or the register file at an
-- address. The state behind a word, and what is known of it.
use Rattle.std.specs.Prelude.{ℕ, ◌≡◌, ◌≢◌, ◌<◌, ◌≤◌, List, [], ◌∷◌, ◌++◌, Option, Some, None, length, slice_get, slice_index, slice_set}
use Rattle.net_model.specs.declared.hardware.Netlist.{Netlist}
use Rattle.net_model.specs.declared.states.State.{State}
use Rattle.net_model.specs.Exprs.{TransferModel, keep, write, write_at}
use Rattle.net_model.specs.Transfers.{cells_moved, reg_moved, transfer_at}
use Rattle.sym_expr.specs.declared.pool.Node.{Node}
use Rattle.sym_expr.specs.Pools.{expr_of_id}
use Rattle.tree_laws.specs.declared.classes.Classes.{Classes}
use Rattle.sym_run.specs.declared.known.Element.{Element}
use Rattle.sym_run.specs.declared.known.Put.{Put}
use Rattle.class_values.specs.declared.facts.Fact.{Fact}
use Rattle.sym_run.specs.declared.known.Known.{Known}
use Rattle.sym_run.specs.declared.moves.Move.{Move}
use Rattle.sym_run.specs.declared.moves.Move.TheVariants.{Keep, Write, WriteAt}
use Rattle.sym_run.specs.declared.known.Cell.{Cell}
use Rattle.sym_run.specs.declared.known.Cell.TheVariants.{Unknown, Array, Is}
use Rattle.class_values.specs.Values.{AreFacts, Holds}
use Rattle.sym_run.specs.Known.{AreInside, ArraysStand, CellStands, FileStands, HoldsOf, StandsFor, cell_at, entry}

-- ---- moves

-- its expressions are of a pool of this size
abbrev pub IsWithin : ℕ → Move → Type 0
IsWithin size Keep = Unit {0}
IsWithin size (Write value) = value < size
IsWithin size (WriteAt addr value) = (addr < size) × (value < size)

abbrev pub AreWithin : ℕ → List Move → Type 0
AreWithin size moves = (id : ℕ) (move : Move) → slice_get moves id ≡ Some move → IsWithin size move

-- the transfer of a move, and to keep where there is none
abbrev pub transfer_of : List Node → Option Move → TransferModel
transfer_of pool None = keep
transfer_of pool (Some Keep) = keep
transfer_of pool (Some (Write value)) = write (expr_of_id pool value)
transfer_of pool (Some (WriteAt addr value)) = write_at (expr_of_id pool addr) (expr_of_id pool value)

-- the moves are all that the word does, one for each storage
abbrev pub AreMoves : Netlist → ℕ → List Node → List Move → Type 0
AreMoves netlist word pool moves = (id : ℕ) → transfer_at netlist word id ≡ transfer_of pool (slice_get moves id)

-- ---- the state behind a word

-- the moves lead from one state to another, where the memory and the register file are the storages of
-- these numbers
pub record IsMoved (pool : List Node) (moves : List Move) (memory file word : ℕ) (s t : State) : Type 0 where
  pub regs : (id : ℕ) → slice_index t.regs id ≡ reg_moved (transfer_of pool (slice_get moves id)) s word id
  pub cells : t.cells ≡ cells_moved (transfer_of pool (slice_get moves memory)) s word s.cells
  pub file_is : t.file ≡ cells_moved (transfer_of pool (slice_get moves file)) s word s.file

-- what is known of a register behind a word that does this transfer
abbrev pub IsNextReg : Classes → Classes → List Fact → Known → ℕ → TransferModel → ℕ → Option ℕ → Type 0
IsNextReg old new facts known word move id o =
    (memory : List ℕ) (s : State) → AreFacts old memory facts → StandsFor old memory known s →
    HoldsOf new memory o (reg_moved move s word id)

abbrev pub AreNextRegs : Classes → Classes → List Fact → Known → ℕ → List Node → List Move → List (Option ℕ) → Type 0
AreNextRegs old new facts known word pool moves regs =
    (id : ℕ) → IsNextReg old new facts known word (transfer_of pool (slice_get moves id)) id (entry regs id)

-- what is known of cells stands for what a memory holds
pub record NextCells (table : Classes) (memory : List ℕ) (cells : List Cell) (inside : List Element)
    (puts : List Put) (held : List ℕ) : Type 0 where
  pub room : length cells ≤ length held
  pub cells_are : (a : ℕ) → CellStands table memory (cell_at cells a) (slice_index held a) (slice_index memory a)
  pub are_inside : AreInside table memory cells inside
  pub arrays : ArraysStand table memory cells puts held

-- so it does behind a word that does this transfer to the memory
abbrev pub AreNextCells : Classes → Classes → List Fact → Known → ℕ → TransferModel → List Cell → Type 0
AreNextCells old new facts known word move cells =
    (memory : List ℕ) (s : State) → AreFacts old memory facts → StandsFor old memory known s →
    NextCells new memory cells known.inside known.puts (cells_moved move s word s.cells)

-- the same cells are known behind a word that writes an element, and one write more
abbrev pub IsNextPut : Classes → Classes → List Fact → Known → ℕ → TransferModel → List Put → Type 0
IsNextPut old new facts known word move puts =
    (memory : List ℕ) (s : State) → AreFacts old memory facts → StandsFor old memory known s →
    NextCells new memory known.cells known.inside puts (cells_moved move s word s.cells)

-- the class has the address of an array's cell
abbrev pub IsOfArray : Classes → List Fact → Known → ℕ → Type 0
IsOfArray table facts known class =
    (memory : List ℕ) (s : State) (a : ℕ) → AreFacts table memory facts → StandsFor table memory known s →
    Holds table memory class a →
    cell_at known.cells a ≡ Array

-- one write more, at an element
pub record IsOneMore (table : Classes) (facts : List Fact) (known : Known) (address value : ℕ)
    (puts : List Put) : Type 0 where
  pub array : IsOfArray table facts known address
  pub more : puts ≡ known.puts ++ record { address = address; value = value } ∷ []

-- what is known of a cell that takes a value
abbrev pub cell_for : Option ℕ → Cell
cell_for None = Unknown
cell_for (Some c) = Is c

-- a value is written at an address, which is no array's
pub record IsWritten (cells : List Cell) (address : ℕ) (value : Option ℕ) (next : List Cell) : Type 0 where
  pub plain : cell_at cells address ≢ Array
  pub same : next ≡ slice_set cells address (cell_for value)

-- entries of which nothing is known
pub record AreUnknown (count : ℕ) (entries : List (Option ℕ)) : Type 0 where
  pub long : length entries ≡ count
  pub none : (k : ℕ) → entry entries k ≡ None

-- what is known of the register file behind a word that does this transfer to it
abbrev pub IsNextFile : Classes → Classes → List Fact → Known → ℕ → TransferModel → List (Option ℕ) → Type 0
IsNextFile old new facts known word move file =
    (memory : List ℕ) (s : State) → AreFacts old memory facts → StandsFor old memory known s →
    FileStands new memory file (cells_moved move s word s.file)

-- what is known behind the word stands for the state to which the moves lead, where the memory and the
-- register file are the storages of these numbers
abbrev pub LeadsOn : Classes → Classes → List Fact → Known → ℕ → List Node → List Move → ℕ → ℕ → Known → Type 0
LeadsOn old new facts known word pool moves place file next =
    (memory : List ℕ) (s t : State) → AreFacts old memory facts → StandsFor old memory known s →
    IsMoved pool moves place file word s t → StandsFor new memory next t
