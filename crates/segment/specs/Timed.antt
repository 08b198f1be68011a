-- How many clocks the words take from one mark to the next: from each state at a mark that is related to
-- cells of the program, where the mark's test has an answer, just so many; or no such state has the
-- answer.
use Rattle.std.specs.Prelude.{ℕ, ◌+◌, ◌≡◌, Bool, List, Option, Some, slice_get}
use Rattle.rec_bits.specs.Operators.{bit_of}
use Rattle.net_model.specs.declared.hardware.Netlist.{Netlist}
use Rattle.net_model.specs.declared.states.State.{State}
use Rattle.src_model.specs.declared.checkpoint.Checkpoint.{Checkpoint}
use Rattle.src_model.specs.Written.{ProgramModel}
use Rattle.code_model.specs.declared.views.Viewed.{Viewed}
use Rattle.code_model.specs.Machine.{IsCalm}
use Rattle.src_trees.specs.Doing.{AllAre, all_done}
use Rattle.src_trees.specs.Flows.{program_jobs}
use Rattle.src_trees.specs.Held.{HoldsCells}
use Rattle.src_trees.specs.Lowered.{JobModel, MemoryMap}
use Rattle.follow.specs.Followed.{Arrives, Crosses, label_of}
use Rattle.follow.specs.Paths.{Path}
use Rattle.follow.specs.Relations.{IsRelated, Relation}
use Rattle.follow.specs.Safe.{AreSafe, IsSafe, IsTestSafe}
use Rattle.segment.specs.declared.way.Way.{Way}
use Rattle.segment.specs.declared.way.Way.TheVariants.{Never, Takes, Unknown}

-- a state at the mark of an address that is related to cells of the program, where the test of a tree can
-- be computed and has this answer
pub record IsAnswered (netlist : Netlist) (viewed : Viewed) (relation : ℕ → Relation) (m : MemoryMap) (temps : ℕ) (l : ProgramModel)
    (address tree : ℕ) (answer : Bool) (s : State) (cells : List ℕ) : Type 0 where
  pub calm : IsCalm netlist address s
  pub related : IsRelated viewed m relation address s cells
  pub holds : HoldsCells temps m cells
  pub job : JobModel
  pub is : slice_get (program_jobs m l) tree ≡ Some job
  pub safe : IsSafe m temps l.vars cells job
  pub answers : AllAre (bit_of answer) cells job.trees

-- just so many clocks lead to the next mark, which is that of an address
pub record ArrivesIn (netlist : Netlist) (viewed : Viewed) (relation : ℕ → Relation) (m : MemoryMap) (most : ℕ)
    (label : Option Checkpoint) (cells : List ℕ) (clocks to : ℕ) (s : State) : Type 0 where
  pub arrives : Arrives netlist viewed relation m most label cells s
  pub exact : arrives.taken ≡ clocks
  pub there : arrives.address ≡ to

-- and so they do with a first one
pub record CrossesIn (netlist : Netlist) (viewed : Viewed) (relation : ℕ → Relation) (m : MemoryMap) (most : ℕ)
    (label : Option Checkpoint) (cells : List ℕ) (clocks to : ℕ) (s : State) : Type 0 where
  pub crosses : Crosses netlist viewed relation m most label cells s
  pub exact : crosses.arrives.taken + 1 ≡ clocks
  pub there : crosses.arrives.address ≡ to

-- the way from a mark over a path of the program's flow, where a test has an answer, and where the program
-- can do the path's jobs and compute the test to which it leads; behind the first, the words may take so
-- many clocks at most
abbrev pub IsWay : Netlist → Viewed → (ℕ → Relation) → MemoryMap → ℕ → ProgramModel → ℕ → ℕ → ℕ → Bool → Path → Way → Type 0
IsWay netlist viewed relation m temps l most address tree answer path (Takes clocks to) =
    (s : State) (cells : List ℕ) → IsAnswered netlist viewed relation m temps l address tree answer s cells
    → AreSafe m temps l.vars cells path.jobs
    → IsTestSafe m temps l.vars (program_jobs m l) (label_of l path) (all_done path.jobs cells)
    → CrossesIn netlist viewed relation m most (label_of l path) (all_done path.jobs cells) clocks to s
IsWay netlist viewed relation m temps l most address tree answer path Never =
    (s : State) (cells : List ℕ) → IsAnswered netlist viewed relation m temps l address tree answer s cells → ⊥
IsWay netlist viewed relation m temps l most address tree answer path (Unknown why) = Unit {0}

-- the way from the first word, where the cells are those of the state
abbrev pub IsFirstWay : Netlist → Viewed → (ℕ → Relation) → MemoryMap → ℕ → ProgramModel → ℕ → Path → Way → Type 0
IsFirstWay netlist viewed relation m temps l most path (Takes clocks to) =
    (s : State) → IsCalm netlist 0 s → AreSafe m temps l.vars s.cells path.jobs
    → IsTestSafe m temps l.vars (program_jobs m l) (label_of l path) (all_done path.jobs s.cells)
    → ArrivesIn netlist viewed relation m most (label_of l path) (all_done path.jobs s.cells) clocks to s
IsFirstWay netlist viewed relation m temps l most path Never = ⊥
IsFirstWay netlist viewed relation m temps l most path (Unknown why) = Unit {0}
