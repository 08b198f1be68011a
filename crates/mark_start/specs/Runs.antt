-- What is known at a mark, of the machine and of the program's cells.
use Rattle.std.specs.Prelude.{ℕ, ◌+◌, ◌*◌, ◌-◌, ◌^◌, ◌<◌, ◌≤◌, ◌≡◌, Bool, true, List, [], ◌∷◌, Some, length, slice_index, slice_get}
use Rattle.net_model.specs.declared.states.State.{State}
use Rattle.src_trees.specs.Lowered.{JobModel}
use Rattle.tree_laws.specs.declared.classes.Classes.{Classes}
use Rattle.tree_laws.specs.Classes.{Grows}
use Rattle.tree_laws.specs.Equal.{CellsFit, memory_alone}
use Rattle.sym_run.specs.declared.known.Cell.{Cell}
use Rattle.sym_run.specs.declared.known.Cell.TheVariants.{Unknown, Kept, Array, Is}
use Rattle.class_values.specs.declared.facts.Fact.{Fact}
use Rattle.sym_run.specs.declared.known.Known.{Known}
use Rattle.class_values.specs.Values.{AreFacts, Holds}
use Rattle.sym_run.specs.Known.{StandsFor, cell_at}
use Rattle.class_values.specs.Symbols.{IsStored}
use Rattle.sym_run.specs.declared.walk.Coded.{Coded}
use Rattle.net_model.specs.Exprs.{ExprModel}
use Rattle.net_model.specs.Meaning.{mean}
use Rattle.src_trees.specs.Seen.{tree_value}
use Rattle.sym_expr.specs.declared.pool.Node.{Node}
use Rattle.sym_expr.specs.Pools.{expr_of_id}
use Rattle.mark_start.specs.declared.hints.Spot.{Spot}
use Rattle.mark_start.specs.declared.run.Run.{Run}
use Rattle.mark_start.specs.declared.run.Start.{Start}
use Rattle.mark_start.specs.Marked.{AllReadArrays, AreViewless, IsAsHinted, IsInArrays, IsKeptIn, SpotsWithin}
use Rattle.net_model.specs.declared.hardware.Netlist.{Netlist}
use Rattle.net_model.specs.declared.hardware.Storage.{Storage}
use Rattle.net_model.specs.declared.hardware.Space.TheVariants.{Memory as InMemory, File as InFile}
use Rattle.net_model.specs.Control.{IsSound}
use Rattle.net_model.specs.Nets.{counter_of, place_in, size_in, storage_bits, width_in}
use Rattle.sym_run.specs.Walks.{IsCodedAt}

-- ---- at the mark

-- a state at the mark, and the program's cells there
pub record IsAtMark (start : Start) (s : State) (cells : List ℕ) : Type 0 where
  pub counter : slice_index s.regs start.counter ≡ start.from.now.address
  pub fits : CellsFit start.word cells
  pub temps : start.temps ≤ length cells
  pub machine_temps : start.temps ≤ length s.cells
  pub within : SpotsWithin (length cells) start.from.now.spots
  pub machine_within : SpotsWithin (length s.cells) start.from.now.spots
  pub file_there : start.file_cells ≤ length s.file
  pub hinted : IsAsHinted start.pool.now start.from.now s cells

-- all cells of some variables and the temporary ones stand before this address
abbrev pub room_of : ℕ → List Spot → ℕ
room_of temps [] = temps
room_of temps (spot ∷ spots) = room_of temps spots + (spot.address + spot.len - room_of temps spots)

-- a view has the value of the program's cell
abbrev pub IsViewOf : List Node → ℕ → ℕ → State → List ℕ → Type 0
IsViewOf pool view address s cells = mean (expr_of_id pool view) s 0 ≡ slice_index cells address

-- behind the variables' cells, the store of the mark has a number of this width in its pair of cells of
-- this number
pub record IsPaired (start : Start) (memory : List ℕ) (pair width x : ℕ) : Type 0 where
  pub stored : IsStored start.word memory (room_of start.temps start.from.now.spots + 2 * pair) x
  pub fits : x < 2 ^ width

-- the store of the mark: the program's cells as far as its variables reach, and behind these what the
-- registers and the cells of the register file hold, each in two cells
pub record IsStore (start : Start) (s : State) (cells memory : List ℕ) : Type 0 where
  pub mark : IsAtMark start s cells
  pub fits : CellsFit start.word memory
  pub kept : (a : ℕ) → a < room_of start.temps start.from.now.spots → slice_index memory a ≡ slice_index cells a
  pub regs : (r : ℕ) (storage : Storage) → slice_get start.storages.now r ≡ Some storage →
      IsPaired start memory r (storage_bits (Some storage)) (slice_index s.regs r)
  pub file : (k : ℕ) → IsPaired start memory (length start.storages.now + k) start.file_word (slice_index s.file k)

-- ---- on the way

-- what is known stands for the machine's state, and for the program's cells, where the mark's store
-- is the memory
pub record Stands (table : Classes) (run : Run) (memory : List ℕ) (s : State) (now : List ℕ) : Type 0 where
  pub facts : AreFacts table memory run.facts
  pub machine : StandsFor table memory run.machine s
  pub vars : StandsFor table memory run.vars (memory_alone now)

-- of each array's cell is known that it is one
abbrev pub ArraysIn : List Spot → List Cell → Type 0
ArraysIn spots cells = (a : ℕ) → IsInArrays spots a → cell_at cells a ≡ Array

pub record KnowsArrays (start : Start) (run : Run) : Type 0 where
  pub machine : ArraysIn start.from.now.spots run.machine.cells
  pub vars : ArraysIn start.from.now.spots run.vars.cells

-- at the mark more is known, where something holds there
pub record IsLearnt (start : Start) (Here : State → List ℕ → Type 0) (old new : Classes)
    (run next : Run) : Type 0 where
  pub grows : Grows old new
  pub arrays : KnowsArrays start run → KnowsArrays start next
  pub stands : (s : State) (cells memory : List ℕ) → IsStore start s cells memory → Here s cells → KnowsArrays start run →
      Stands old run memory s cells → Stands new next memory s cells

-- the class has what a state's cell holds
abbrev pub IsInCell : Classes → Classes → List Fact → Known → ℕ → ℕ → Type 0
IsInCell old new facts known address c =
    (memory : List ℕ) (s : State) → AreFacts old memory facts → StandsFor old memory known s →
    Holds new memory c (slice_index s.cells address)

-- the class has the value of a tree over the program's cells
abbrev pub IsTreeOf : Classes → Classes → Run → ExprModel → ℕ → Type 0
IsTreeOf old new run tree c =
    (memory now : List ℕ) → AreFacts old memory run.facts → StandsFor old memory run.vars (memory_alone now) →
    Holds new memory c (tree_value now tree)

-- and that of an expression over the machine's state
abbrev pub IsExprOf : Classes → Classes → Run → ExprModel → ℕ → Type 0
IsExprOf old new run expr c =
    (memory : List ℕ) (s : State) → AreFacts old memory run.facts → StandsFor old memory run.machine s →
    Holds new memory c (mean expr s 0)

-- the class has what the mark's store has in a cell
abbrev pub IsKeptClass : Classes → ℕ → ℕ → Type 0
IsKeptClass table address c = (memory : List ℕ) → Holds table memory c (slice_index memory address)

-- wherever what is known stands, more is known, where something holds of the program's cells
pub record IsGathered (start : Start) (Here : List ℕ → Type 0) (old new : Classes) (run next : Run) : Type 0 where
  pub grows : Grows old new
  pub arrays : KnowsArrays start run → KnowsArrays start next
  pub stands : (memory : List ℕ) (s : State) (now : List ℕ) → Here now → KnowsArrays start run →
      Stands old run memory s now → Stands new next memory s now

-- ---- cells at the mark

-- what is known of a cell at the mark, of the machine or of the program
abbrev pub IsStartCell : List Spot → Bool → ℕ → Cell → Type 0
IsStartCell spots machine a Unknown = Unit {0}
IsStartCell spots machine a Kept = machine ≡ true → IsKeptIn spots a
IsStartCell spots machine a Array = IsKeptIn spots a
IsStartCell spots machine a (Is c) = ⊥

pub record AreStartCells (spots : List Spot) (machine : Bool) (room : ℕ) (cells : List Cell) : Type 0 where
  pub count : length cells ≡ room
  pub are : (a : ℕ) → IsStartCell spots machine a (cell_at cells a)
  pub arrays : AreViewless spots → (a : ℕ) → a < room → IsInArrays spots a → cell_at cells a ≡ Array

-- ---- places

-- one more thing is known, if the class has the value of this expression
abbrev pub IsToldOf : List Node → ℕ → ℕ → Known → Known → Type 0
IsToldOf pool place class old new =
    (table : Classes) (memory : List ℕ) (s : State) → StandsFor table memory old s →
    Holds table memory class (mean (expr_of_id pool place) s 0) →
    StandsFor table memory new s

abbrev pub IsToldReg : ℕ → ℕ → Known → Known → Type 0
IsToldReg register class old new =
    (table : Classes) (memory : List ℕ) (s : State) → StandsFor table memory old s →
    Holds table memory class (slice_index s.regs register) →
    StandsFor table memory new s

abbrev pub IsToldCell : ℕ → ℕ → Known → Known → Type 0
IsToldCell address class old new =
    (table : Classes) (memory : List ℕ) (s : State) → StandsFor table memory old s →
    Holds table memory class (slice_index s.cells address) →
    StandsFor table memory new s

abbrev pub IsToldFile : ℕ → ℕ → Known → Known → Type 0
IsToldFile address class old new =
    (table : Classes) (memory : List ℕ) (s : State) → StandsFor table memory old s →
    Holds table memory class (slice_index s.file address) →
    StandsFor table memory new s

-- and so of the program's cells
abbrev pub IsToldVar : ℕ → ℕ → Known → Known → Type 0
IsToldVar address class old new =
    (table : Classes) (memory now : List ℕ) → StandsFor table memory old (memory_alone now) →
    Holds table memory class (slice_index now address) →
    StandsFor table memory new (memory_alone now)

-- ---- the start

-- what is known stands at the mark
pub record IsAtStart (start : Start) (table : Classes) (run : Run) : Type 0 where
  pub arrays : KnowsArrays start run
  pub stands : (s : State) (cells memory : List ℕ) → IsStore start s cells memory → Stands table run memory s cells

-- what is known at the mark, before anything is known of the test
pub record IsStarted (start : Start) (job : JobModel) (old new : Classes) (run : Run) : Type 0 where
  pub grows : Grows old new
  pub arrays : KnowsArrays start run
  pub stands : (s : State) (cells memory : List ℕ) → IsStore start s cells memory →
      AllReadArrays start.from.now.spots cells job.trees → Stands new run memory s cells

-- ---- the code

-- the code is of these words of the netlist, whose program counter, memory and register file have these
-- numbers, with its storages, and the file so many cells of this width
pub record IsCode (netlist : Netlist) (words : List ℕ) (start : Start) : Type 0 where
  pub sound : IsSound netlist
  pub counter : start.counter ≡ counter_of netlist.codes
  pub memory : start.memory ≡ place_in InMemory netlist.storages
  pub file : start.file ≡ place_in InFile netlist.storages
  pub storages : start.storages.now ≡ netlist.storages
  pub file_cells : start.file_cells ≡ size_in InFile netlist.storages
  pub file_word : start.file_word ≡ width_in InFile netlist.storages
  pub code : (a : ℕ) (coded : Coded) → slice_get start.code.now a ≡ Some coded → IsCodedAt netlist start.pool.now (slice_index words a) coded
