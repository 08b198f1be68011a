-- When words stand for the parts of a flow: a block's lead word by word to the end of it and do
-- its jobs, a test's operands leave a condition that is one of its trees, a branch word goes where
-- it should; all of them from mode 0 to mode 0.
use Rattle.std.specs.Prelude.{ℕ, zero, suc, ◌+◌, ◌≡◌, Bool, true, false, if◌then◌else◌, List, drop, slice_get, slice_index, Option, Some}
use Rattle.net_model.specs.declared.hardware.Netlist.{Netlist}
use Rattle.net_model.specs.declared.states.State.{State}
use Rattle.net_model.specs.Exprs.{ExprModel, select, write}
use Rattle.net_model.specs.Meaning.{mean}
use Rattle.net_model.specs.Clock.{clock, Next}
use Rattle.net_model.specs.Transfers.{IsClean, counter_transfer}
use Rattle.code_model.specs.declared.image.Image.{Image}
use Rattle.code_model.specs.Places.{words_of}
use Rattle.code_model.specs.Machine.{IsAt, IsCalm}
use Rattle.code_model.specs.Words.{KeepsMemory, KeepsMode}
use Rattle.net_model.specs.Fixed.{mode_in}
use Rattle.code_model.specs.Flow.{GoesTo}
use Rattle.src_trees.specs.Lowered.{JobModel}
use Rattle.src_trees.specs.Seen.{tree_value}
use Rattle.src_trees.specs.Doing.{Lies, AllLie, all_done}
use Rattle.form_model.specs.declared.flow.Flow.{Flow}
use Rattle.form_model.specs.Forms.{FormModel}
use Rattle.src_trees.specs.Blocks.{IsAssignBlock, jobs_at}
use Rattle.branch_fix.specs.declared.part.BranchedTest.{BranchedTest}
use Rattle.branch_fix.specs.declared.part.LayoutPart.{LayoutPart}
use Rattle.branch_fix.specs.declared.part.LayoutPart.TheVariants.{Block, Test, Jump, End}
use Rattle.branch_fix.specs.Parts.{form_at_one, address, marks_from, PartsFit}

-- so many clocks lead from s to t, each to the next address
abbrev pub Walks : Netlist → Image → ℕ → State → ℕ → State → Type 0
Walks netlist image at s zero t = (s ≡ t) × IsAt netlist at t
Walks netlist image at s (suc n) t =
    IsAt netlist at s
    × ((u : State) × (clock netlist (words_of image) s ≡ Next u) × Walks netlist image (at + 1) u n t)

-- the words of a block, so many from an address on: they do its jobs, from mode 0 to mode 0
pub record DoesBlock (netlist : Netlist) (image : Image) (temps : ℕ)
    (jobs : List JobModel) (at n : ℕ) : Type 0 where
  pub walks : (s : State) → IsCalm netlist at s → AllLie temps s.cells jobs →
      (t : State) × Walks netlist image at s n t × (mode_in netlist.special t ≡ 0)
      × (drop temps t.cells ≡ drop temps (all_done jobs s.cells))

-- a word that goes to an address where a condition is 1, or where it is 0, and else on to the next
-- word, and keeps the memory and the mode
pub record DoesBranch (netlist : Netlist) (special : Option ℕ) (i : ℕ) (condition : ExprModel)
    (when_one : Bool) (at to : ℕ) : Type 0 where
  pub clean : IsClean netlist i
  pub keeps : KeepsMemory netlist i
  pub mode : KeepsMode special netlist i
  pub first : ExprModel
  pub second : ExprModel
  pub move : counter_transfer netlist i ≡ write (select condition first second)
  pub on_one : (s : State) → IsAt netlist at s → mean first s i ≡ (if when_one then to else at + 1)
  pub on_zero : (s : State) → IsAt netlist at s → mean second s i ≡ (if when_one then at + 1 else to)

-- one clock leads to a calm state at one of two addresses, by the condition's value under the word
-- i, and the cells stay
pub record Branches (netlist : Netlist) (image : Image) (i : ℕ)
    (condition : ExprModel) (on_one on_zero : ℕ) (s : State) : Type 0 where
  pub next : State
  pub clocked : clock netlist (words_of image) s ≡ Next next
  pub one : mean condition s i ≡ 1 → IsCalm netlist on_one next
  pub none : mean condition s i ≡ 0 → IsCalm netlist on_zero next
  pub same : next.cells ≡ s.cells

-- and so it does from each calm state at an address
pub record BranchesTo (netlist : Netlist) (image : Image) (i : ℕ)
    (condition : ExprModel) (at on_one on_zero : ℕ) : Type 0 where
  pub branches : (s : State) → IsCalm netlist at s → Branches netlist image i condition on_one on_zero s

-- the words of a test's operands' code, so many from an address on: behind them a condition has the
-- value of one of the job's trees
pub record DoesOperands (netlist : Netlist) (image : Image) (temps : ℕ)
    (job : JobModel) (i : ℕ) (condition : ExprModel) (at n : ℕ) : Type 0 where
  pub which : ℕ
  pub used : ExprModel
  pub among : slice_get job.trees which ≡ Some used
  pub walks : (s : State) → IsCalm netlist at s → Lies temps s.cells job →
      (t : State) × Walks netlist image at s n t × (mode_in netlist.special t ≡ 0)
      × (drop temps t.cells ≡ drop temps s.cells)
      × (mean condition t i ≡ tree_value s.cells used)

abbrev pub image_word : Image → ℕ → ℕ
image_word image at = slice_index (words_of image) at

-- the words behind a branch word at an address
abbrev pub TailGoes : Netlist → Image → Bool → Bool → ℕ → ℕ → ℕ → Type 0
TailGoes netlist image next true at to other =
    GoesTo netlist image (at + 1) other × GoesTo netlist image (at + 2) to
TailGoes netlist image true false at to other = Unit {0}
TailGoes netlist image false false at to other = GoesTo netlist image (at + 1) other

-- the words of a test, from an address on, where the addresses of its targets are given
pub record DoesFork (netlist : Netlist) (image : Image) (temps : ℕ)
    (job : JobModel) (when_one : Bool) (f : BranchedTest) (at to other : ℕ) : Type 0 where
  pub condition : ExprModel
  pub operands : DoesOperands netlist image temps job (image_word image (at + f.words)) condition at f.words
  pub branch : BranchesTo netlist image (image_word image (at + f.words)) condition (at + f.words)
      (if when_one then (if f.long then at + f.words + 2 else to) else at + f.words + 1)
      (if when_one then at + f.words + 1 else (if f.long then at + f.words + 2 else to))
  pub behind : TailGoes netlist image f.next f.long (at + f.words) to other

-- words stand for all parts, and the marks are theirs
pub record IsMade (netlist : Netlist) (image : Image) (temps : ℕ)
    (forms : List FormModel) (flow : List Flow) (jobs : List JobModel) (parts : List LayoutPart) : Type 0 where
  pub fit : PartsFit forms flow 0 flow parts
  pub marks : image.marks ≡ marks_from 0 parts
  pub blocks : (at n block words : ℕ) → IsAssignBlock flow at n →
      slice_get parts at ≡ Some (Block block words) →
      DoesBlock netlist image temps (jobs_at flow jobs at n) (address parts at) words
  pub forks : (at : ℕ) (f : BranchedTest) → slice_get parts at ≡ Some (Test f) → (job : JobModel) → slice_get jobs f.tree ≡ Some job
      → DoesFork netlist image temps job (form_at_one (slice_get forms f.form)) f (address parts at)
      (address parts f.to) (address parts f.other)
  pub jumps : (at to : ℕ) → slice_get parts at ≡ Some (Jump to) →
      GoesTo netlist image (address parts at) (address parts to)
  pub ends : (at : ℕ) → slice_get parts at ≡ Some End → GoesTo netlist image (address parts at) (address parts at)
