-- What is known on the way from a mark to the next, behind the jobs of a path.
use Rattle.std.specs.Prelude.{ℕ, ◌+◌, ◌<◌, ◌≡◌, Bool, true, List, Option, None, Some, slice_index, slice_get}
use Rattle.rec_bits.specs.Operators.{bit_of}
use Rattle.net_model.specs.declared.states.State.{State}
use Rattle.src_trees.specs.Doing.{AllAre, all_done, done}
use Rattle.src_trees.specs.Jobs.{models_of_jobs}
use Rattle.src_trees.specs.Lowered.{JobModel}
use Rattle.tree_laws.specs.declared.classes.Classes.{Classes}
use Rattle.tree_laws.specs.Classes.{Grows, cell_bits}
use Rattle.tree_laws.specs.Equal.{CellsFit, memory_alone}
use Rattle.sym_run.specs.declared.known.Cell.{Cell}
use Rattle.sym_run.specs.declared.known.Put.{Put}
use Rattle.class_values.specs.declared.facts.Fact.{Fact}
use Rattle.sym_run.specs.declared.known.Known.{Known}
use Rattle.class_values.specs.Values.{AreFacts, Holds}
use Rattle.sym_run.specs.Known.{StandsFor}
use Rattle.sym_run.specs.Moves.{NextCells}
use Rattle.follow.specs.Trails.{all_jobs}
use Rattle.mark_start.specs.declared.hints.Spot.{Spot}
use Rattle.mark_start.specs.declared.run.Run.{Run}
use Rattle.segment.specs.declared.run.Segment.{Segment}
use Rattle.mark_start.specs.Marked.{AllReadArrays, AreReads, IsInPlace}
use Rattle.mark_start.specs.Runs.{ArraysIn, KnowsArrays, Stands}

-- the test has the answer there
abbrev pub HasAnswer : Segment → List ℕ → Type 0
HasAnswer segment cells =
    (job : JobModel) → slice_get (models_of_jobs segment.jobs.now) segment.test ≡ Some job →
    AllReadArrays segment.start.from.now.spots cells job.trees × AllAre (bit_of segment.start.answer) cells job.trees

-- wherever what is known stands, this holds, if the answer is yes
pub record IsAgreed (run : Run) (Here : State → List ℕ → Type 0) (old new : Classes) (yes : Bool) : Type 0 where
  pub grows : Grows old new
  pub holds : yes ≡ true → (memory : List ℕ) (s : State) (now : List ℕ) → Stands old run memory s now → Here s now

-- the classes have one value
abbrev pub AreEqualOf : Classes → List Fact → ℕ → ℕ → Type 0
AreEqualOf table facts a b =
    (memory : List ℕ) (x y : ℕ) → CellsFit (cell_bits table) memory → AreFacts table memory facts →
    Holds table memory a x → Holds table memory b y → x ≡ y

-- the cell holds what the mark's store has there
abbrev pub IsOldIn : Known → ℕ → Type 0
IsOldIn known address =
    (table : Classes) (memory : List ℕ) (s : State) → StandsFor table memory known s →
    slice_index s.cells address ≡ slice_index memory address

-- machine and program hold the same in a cell
abbrev pub IsAlikeIn : Classes → Run → ℕ → Type 0
IsAlikeIn table run address = (memory : List ℕ) (s : State) (now : List ℕ) → Stands table run memory s now →
    slice_index s.cells address ≡ slice_index now address

-- the machine's writes to arrays are said to be others, that leave the same
pub record IsAligned (old new : Classes) (run next : Run) : Type 0 where
  pub grows : Grows old new
  pub stands : (memory : List ℕ) (s : State) (now : List ℕ) → Stands old run memory s now → Stands new next memory s now

-- so many cells are the same
abbrev pub AreCellsAlike : ℕ → ℕ → State → List ℕ → Type 0
AreCellsAlike address count s now = (k : ℕ) → k < count →
    slice_index s.cells (address + k) ≡ slice_index now (address + k)

-- what is known of the cells behind a job
pub record IsPut (job : JobModel) (old new : Classes) (facts : List Fact) (known : Known)
    (next : List Cell) : Type 0 where
  pub grows : Grows old new
  pub arrays : (spots : List Spot) → ArraysIn spots known.cells → ArraysIn spots next
  pub cells : (memory now : List ℕ) → AreFacts old memory facts → StandsFor old memory known (memory_alone now) →
      NextCells new memory next known.inside known.puts (done job now)

-- what was written to arrays behind a job that goes to an element
pub record IsPutIn (job : JobModel) (old new : Classes) (facts : List Fact) (known : Known)
    (puts : List Put) : Type 0 where
  pub cells : (memory now : List ℕ) → AreFacts old memory facts → StandsFor old memory known (memory_alone now) →
      NextCells new memory known.cells known.inside puts (done job now)

-- a job leads on
pub record IsDone (segment : Segment) (job : JobModel) (old new : Classes) (run next : Run) : Type 0 where
  pub grows : Grows old new
  pub arrays : KnowsArrays segment.start run → KnowsArrays segment.start next
  pub stands : (memory : List ℕ) (s : State) (now : List ℕ) → IsInPlace segment.start.from.now.spots now job →
      KnowsArrays segment.start run → Stands old run memory s now
      → Stands new next memory s (done job now)

-- so do jobs one after the other
pub record AreDone (segment : Segment) (path : List ℕ) (old new : Classes) (run next : Run) : Type 0 where
  pub grows : Grows old new
  pub arrays : KnowsArrays segment.start run → KnowsArrays segment.start next
  pub stands : (memory : List ℕ) (s : State) (now : List ℕ) (later : List JobModel) →
      all_jobs (models_of_jobs segment.jobs.now) path ≡ Some later
      → AreReads segment.start.from.now.spots now later → KnowsArrays segment.start run → Stands old run memory s now →
      Stands new next memory s (all_done later now)

-- the test of a number, if there is one, reads literal addresses and arrays alone
abbrev pub TestReads : List Spot → List JobModel → Option ℕ → List ℕ → Type 0
TestReads spots jobs None now = Unit {0}
TestReads spots jobs (Some test) now =
    (job : JobModel) → slice_get jobs test ≡ Some job → AllReadArrays spots now job.trees

-- so do the jobs of the segment's path, and behind them the test at its end
abbrev pub PathReads : Segment → List ℕ → List JobModel → Type 0
PathReads segment now later =
    AreReads segment.start.from.now.spots now later
    × TestReads segment.start.from.now.spots (models_of_jobs segment.jobs.now) segment.label (all_done later now)

-- the path leads on, and what the test at its end reads is known
pub record IsOverPath (segment : Segment) (old new : Classes) (run next : Run) : Type 0 where
  pub grows : Grows old new
  pub stands : (memory : List ℕ) (s : State) (now : List ℕ) (later : List JobModel) →
      all_jobs (models_of_jobs segment.jobs.now) segment.path.now ≡ Some later
      → PathReads segment now later → KnowsArrays segment.start run → Stands old run memory s now →
      Stands new next memory s (all_done later now)

-- more is known in place of a run, wherever the run stands
pub record IsToldOn (old new : Classes) (run next : Run) : Type 0 where
  pub grows : Grows old new
  pub stands : (memory : List ℕ) (s : State) (now : List ℕ) → Stands old run memory s now → Stands new next memory s now
