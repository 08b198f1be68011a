-- When the words of an image do what a flow says: where each place of the flow stands, and where
-- the words there lead. At each address that the flow names the machine is in mode 0.
use Rattle.std.specs.Prelude.{ℕ, ◌+◌, ◌<◌, ◌≤◌, ◌≡◌, List, length, drop, slice_get, Some}
use Rattle.net_model.specs.declared.hardware.Netlist.{Netlist}
use Rattle.net_model.specs.declared.states.State.{State}
use Rattle.net_model.specs.Exprs.{ExprModel}
use Rattle.net_model.specs.Clock.{clock, Next}
use Rattle.src_model.specs.declared.checkpoint.Checkpoint.TheVariants.{At, End as TheEnd}
use Rattle.code_model.specs.declared.image.Image.{Image}
use Rattle.code_model.specs.Places.{words_of, label_at}
use Rattle.code_model.specs.Machine.{label_in, IsCalm}
use Rattle.code_model.specs.Flow.{Reaches, GoesTo}
use Rattle.form_model.specs.declared.flow.Flow.{Flow}
use Rattle.form_model.specs.declared.flow.Flow.TheVariants.{Test, Jump}
use Rattle.src_trees.specs.Lowered.{JobModel}
use Rattle.src_trees.specs.Seen.{tree_value}
use Rattle.src_trees.specs.Doing.{Lies, AllLie, all_done}
use Rattle.src_trees.specs.Blocks.{IsAssignBlock, jobs_at}

-- within so many clocks, and without a mark before the last state, s comes to an address, with
-- these cells behind the temporary ones
pub record Comes (netlist : Netlist) (image : Image) (temps address : ℕ) (cells : List ℕ)
    (clocks : ℕ) (s : State) : Type 0 where
  pub taken : ℕ
  pub last : State
  pub within : taken ≤ clocks
  pub reaches : Reaches netlist image s taken last
  pub here : IsCalm netlist address last
  pub same : drop temps last.cells ≡ drop temps cells

-- the words from an address do these jobs one after the other and lead to a later address
pub record DoesJobs (netlist : Netlist) (image : Image) (temps : ℕ) (jobs : List JobModel) (from to : ℕ) : Type 0 where
  pub clocks : ℕ
  pub later : from + clocks ≤ to
  pub does : (s : State) → IsCalm netlist from s → AllLie temps s.cells jobs →
      Comes netlist image temps to (all_done jobs s.cells) clocks s

-- a state at a test's mark leads, by the value of a tree, to one of two addresses, and the cells
-- stay
pub record Decides (netlist : Netlist) (image : Image) (temps tree : ℕ) (used : ExprModel)
    (when_one when_zero clocks : ℕ) (s : State) : Type 0 where
  pub label : label_in netlist image s ≡ Some (At tree)
  pub next : State
  pub clocked : clock netlist (words_of image) s ≡ Next next
  pub on_one : tree_value s.cells used ≡ 1 → Comes netlist image temps when_one s.cells clocks next
  pub on_zero : tree_value s.cells used ≡ 0 → Comes netlist image temps when_zero s.cells clocks next

-- the words from an address decide a test by one of its trees, and both targets stand behind them
pub record DoesTest (netlist : Netlist) (image : Image) (temps tree : ℕ) (job : JobModel)
    (from when_one when_zero : ℕ) : Type 0 where
  pub which : ℕ
  pub used : ExprModel
  pub among : slice_get job.trees which ≡ Some used
  pub clocks : ℕ
  pub one_later : from + clocks < when_one
  pub zero_later : from + clocks < when_zero
  pub asks : (s : State) → IsCalm netlist from s → Lies temps s.cells job →
      Decides netlist image temps tree used when_one when_zero clocks s

-- the word at an address leads to another in one clock, and the cells stay
pub record JumpComes (netlist : Netlist) (image : Image) (temps from to : ℕ) : Type 0 where
  pub goes : (s : State) → IsCalm netlist from s → Comes netlist image temps to s.cells 1 s

-- each place of the flow has its address; those in the middle of a block stand for nothing
pub record IsPlaced (netlist : Netlist) (image : Image) (temps : ℕ) (flow : List Flow)
    (jobs : List JobModel) (starts : ℕ → ℕ) (end : ℕ) : Type 0 where
  pub first : starts 0 ≡ 0
  pub rises : (i k : ℕ) → i ≤ k → starts i ≤ starts k
  pub blocks : (at n : ℕ) → IsAssignBlock flow at n →
      DoesJobs netlist image temps (jobs_at flow jobs at n) (starts at) (starts (at + n))
  pub tests : (at tree when_one when_zero : ℕ)
      → slice_get flow at ≡ Some (Test tree when_one when_zero)
      → (job : JobModel) → slice_get jobs tree ≡ Some job
      → DoesTest netlist image temps tree job (starts at) (starts when_one) (starts when_zero)
  pub jumps : (at to : ℕ) → slice_get flow at ≡ Some (Jump to) → JumpComes netlist image temps (starts at) (starts to)
  pub behind_jump : (at to : ℕ) → slice_get flow at ≡ Some (Jump to) → starts at + 1 ≤ starts (at + 1)
  -- the end is the last word, which goes to itself and alone has the end's mark
  pub long : length (words_of image) ≡ starts end + 1
  pub end_label : label_at image.marks (starts end) ≡ Some TheEnd
  pub end_only : (a : ℕ) → label_at image.marks a ≡ Some TheEnd → a ≡ starts end
  pub end_word : GoesTo netlist image (starts end) (starts end)
