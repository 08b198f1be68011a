-- When the marks of an image follow a program. From the mark of a test, for each answer of the test,
-- the words lead within the clocks of one image length and past no mark to one of the next checkpoint
-- of the program's flow: from each state there that is related to cells of a memory, to a state that
-- is related to the cells after the jobs of the flow's path. They lead likewise from the start, where
-- the cells are those of the state. The last word goes to itself.
use Rattle.std.specs.Prelude.{ℕ, ◌+◌, ◌≡◌, ◌≤◌, Bool, if◌then◌else◌, List, length, Option, Some, slice_get}
use Rattle.rec_bits.specs.Operators.{bit_of}
use Rattle.net_model.specs.declared.hardware.Netlist.{Netlist}
use Rattle.net_model.specs.declared.states.State.{State}
use Rattle.net_model.specs.Clock.{clock, Next}
use Rattle.src_model.specs.declared.checkpoint.Checkpoint.{Checkpoint}
use Rattle.src_model.specs.declared.checkpoint.Checkpoint.TheVariants.{At}
use Rattle.src_model.specs.Written.{ProgramModel}
use Rattle.code_model.specs.declared.views.Viewed.{Viewed}
use Rattle.code_model.specs.Flow.{Reaches, GoesTo}
use Rattle.code_model.specs.Machine.{IsCalm}
use Rattle.code_model.specs.Places.{words_of, label_at}
use Rattle.form_model.specs.declared.flow.Flow.TheVariants.{Test}
use Rattle.src_trees.specs.Doing.{AllAre, all_done}
use Rattle.src_trees.specs.Flows.{program_flow, program_jobs}
use Rattle.src_trees.specs.Held.{HoldsCells}
use Rattle.src_trees.specs.Lowered.{MemoryMap, JobModel}
use Rattle.follow.specs.Paths.{Path, path_from, checkpoint_at}
use Rattle.follow.specs.Relations.{Relation, IsRelated}
use Rattle.follow.specs.Safe.{IsSafe, AreSafe, IsTestSafe}

-- within so many clocks, and past no mark, s comes to a mark with this label, to a state that is
-- related to these cells
pub record Arrives (netlist : Netlist) (viewed : Viewed) (relation : ℕ → Relation) (m : MemoryMap)
    (clocks : ℕ) (label : Option Checkpoint) (cells : List ℕ) (s : State) : Type 0 where
  pub taken : ℕ
  pub last : State
  pub address : ℕ
  pub within : taken ≤ clocks
  pub reaches : Reaches netlist viewed.image s taken last
  pub here : IsCalm netlist address last
  pub marked : label_at viewed.image.marks address ≡ label
  pub related : IsRelated viewed m relation address last cells

-- and so it does from the next state
pub record Crosses (netlist : Netlist) (viewed : Viewed) (relation : ℕ → Relation) (m : MemoryMap)
    (clocks : ℕ) (label : Option Checkpoint) (cells : List ℕ) (s : State) : Type 0 where
  pub next : State
  pub clocked : clock netlist (words_of viewed.image) s ≡ Next next
  pub arrives : Arrives netlist viewed relation m clocks label cells next

-- where a path of the program's flow leads
abbrev pub label_of : ProgramModel → Path → Option Checkpoint
label_of l path = checkpoint_at (slice_get (program_flow l) path.to)

-- from the mark at an address, where the test of a tree has this answer, over a path of the flow; the
-- program can compute this test, do the path's jobs and compute the test to which the path leads
abbrev pub IsSegment : Netlist → Viewed → (ℕ → Relation) → MemoryMap → ℕ → ProgramModel → ℕ → ℕ → ℕ → Bool → Path → Type 0
IsSegment netlist viewed relation m temps l clocks address tree answer path =
    (job : JobModel) → slice_get (program_jobs m l) tree ≡ Some job → (s : State) (cells : List ℕ)
    → IsCalm netlist address s → IsRelated viewed m relation address s cells → HoldsCells temps m cells
    → IsSafe m temps l.vars cells job → AllAre (bit_of answer) cells job.trees
    → AreSafe m temps l.vars cells path.jobs
    → IsTestSafe m temps l.vars (program_jobs m l) (label_of l path) (all_done path.jobs cells)
    → Crosses netlist viewed relation m clocks (label_of l path) (all_done path.jobs cells) s

-- from the start, where the cells are those of the state
abbrev pub IsStart : Netlist → Viewed → (ℕ → Relation) → MemoryMap → ℕ → ProgramModel → ℕ → Path → Type 0
IsStart netlist viewed relation m temps l clocks path =
    (s : State) → IsCalm netlist 0 s → AreSafe m temps l.vars s.cells path.jobs
    → IsTestSafe m temps l.vars (program_jobs m l) (label_of l path) (all_done path.jobs s.cells)
    → Arrives netlist viewed relation m clocks (label_of l path) (all_done path.jobs s.cells) s

-- all marks follow a program by the relations of their addresses
pub record IsFollowed (netlist : Netlist) (viewed : Viewed) (relation : ℕ → Relation) (m : MemoryMap)
    (temps : ℕ) (l : ProgramModel) : Type 0 where
  -- the last word goes to itself
  pub last : ℕ
  pub long : length (words_of viewed.image) ≡ last + 1
  pub end_word : GoesTo netlist viewed.image last last
  -- the start, and each answer of the test at each mark
  pub start : (n : ℕ) (path : Path) → path_from (program_flow l) (program_jobs m l) n 0 ≡ Some path
      → IsStart netlist viewed relation m temps l last path
  pub tests : (address tree at when_one when_zero : ℕ) → label_at viewed.image.marks address ≡ Some (At tree)
      → slice_get (program_flow l) at ≡ Some (Test tree when_one when_zero) → (answer : Bool)
      → (n : ℕ) (path : Path)
      → path_from (program_flow l) (program_jobs m l) n (if answer then when_one else when_zero) ≡ Some path
      → IsSegment netlist viewed relation m temps l last address tree answer path
