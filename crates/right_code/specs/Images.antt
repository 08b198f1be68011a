-- The image of a task: all that is decided about it apart from its trace, and when it is right
-- code. The steps of a cut's jobs, one job after the other, are packed into groups, each of which
-- has a step, and which hold the steps, each as often, mean them, and are packed. The words of a
-- block are those of its cuts' groups, each the least that fits its group with the registers that
-- are live behind it, and the mode words between them; nothing but the mode is live behind a cut,
-- and behind a test's steps the mode and exactly those registers that the branch's condition
-- reads. They stand in the flow's order, with the jump and branch words between them, which keep
-- the mode; each word lists the patterns of its group's steps, or that of its jump or branch or of
-- its mode word, by their numbers in the mode in which it runs; the layout of the memory, the told
-- costs, the marks and the bound are right. *Right code* is such an image that traces the program.
use Rattle.std.specs.Prelude.{ℕ, ◌≤◌, ◌≡◌, List, length, Option, Some, slice_get}
use Rattle.net_model.specs.declared.hardware.Netlist.{Netlist}
use Rattle.net_model.specs.Nets.{memory_size, word_width}
use Rattle.net_model.specs.Patterns.{Pattern}
use Rattle.src_model.specs.Trace.{strace}
use Rattle.code_model.specs.declared.image.Image.{Image}
use Rattle.code_model.specs.Places.{words_of}
use Rattle.code_model.specs.Right.{TracesRight}
use Rattle.form_model.specs.declared.forms.Step.{Step}
use Rattle.form_model.specs.Covers.{JobCoverModel, StockModel}
use Rattle.form_model.specs.Forms.{tested}
use Rattle.form_model.specs.Steps.{branch_setting}
use Rattle.form_set.specs.Listing.{greatest_reach}
use Rattle.mode_set.specs.Costs.{PlanModel}
use Rattle.mode_set.specs.Keeping.{Isas}
use Rattle.net_model.specs.ModeRules.{base_at}
use Rattle.right_code.specs.Cuts.{AreBlockCuts, cuts_of, plans_at, with_mode}
use Rattle.emit_seq.specs.Spares.{wanted}
use Rattle.src_trees.specs.Blocks.{IsAssignBlock, jobs_at}
use Rattle.src_trees.specs.Held.{HasCellRoom, HoldsVars}
use Rattle.src_trees.specs.Lowered.{JobModel}
use Rattle.branch_fix.specs.Bounds.{program_bound}
use Rattle.branch_fix.specs.Items.{items_from, jump_form}
use Rattle.branch_fix.specs.Marked.{AreMarked}
use Rattle.branch_fix.specs.Parts.{marks_from, parts_of, starts, total}
use Rattle.branch_fix.specs.Rounds.{IsFixpoint}
use Rattle.branch_fix.specs.declared.outline.Branch.{Branch}
use Rattle.branch_fix.specs.declared.part.BranchedTest.{BranchedTest}
use Rattle.branch_fix.specs.declared.part.LayoutPart.{LayoutPart}
use Rattle.branch_fix.specs.declared.part.LayoutPart.TheVariants.{Block, Test}
use Rattle.right_code.specs.Covered.{ArePlans, mode_stock, numbered, plan_costs}
use Rattle.right_code.specs.Forks.{cover_form}
use Rattle.right_code.specs.Jobs.{job_steps, tree_used}
use Rattle.right_code.specs.Tasks.{Task, task_memory, task_temps, task_jobs}
use Rattle.right_code.specs.Words.{AreGroupWords, IsPackingOf, ListItems, StandItems}

-- ---- the words of tests

-- the branch of a test is one of the form at the root of its tree's cover, and its condition has
-- the setting that the cover gives it
pub record IsBranchOf (stock : StockModel) (job : JobModel) (choice : JobCoverModel) (f : BranchedTest) : Type 0 where
  pub form : slice_get stock.forms f.form ≡ Some (cover_form stock choice.cover)
  pub setting : f.setting ≡ branch_setting stock (tree_used job choice) choice.cover

-- so many words are those of groups that the steps of a test's cover are packed into, behind which
-- exactly the mode and the registers are live that the branch's condition reads under its setting
pub record AreTestWords (netlist : Netlist) (special : Option ℕ) (patterns : List Pattern)
    (stock : StockModel) (job : JobModel) (choice : JobCoverModel) (groups : List (List Step)) (words : List ℕ)
    (f : BranchedTest) : Type 0 where
  pub packing : IsPackingOf netlist patterns (job_steps stock job choice)
      (with_mode special (wanted stock tested (tree_used job choice) choice.cover)) groups
  pub least : AreGroupWords netlist patterns groups
      (with_mode special (wanted stock tested (tree_used job choice) choice.cover)) words
  pub long : f.words ≡ length words
  pub branch : IsBranchOf stock job choice f

-- ---- the image

-- the temporary cells stand from address 0, and the variables behind them at the task's places; all
-- lie in the memory, and none in another
pub record IsLaidAt (task : Task) (image : Image) : Type 0 where
  pub temps : image.temps ≡ task_temps task
  pub places : image.places ≡ task.places
  pub held : HoldsVars (task_temps task) task.program.vars (task_memory task)
  pub room : HasCellRoom (task_temps task) (task_memory task) (memory_size task.netlist.storages)

-- an image that is made for a task
pub record IsMadeFor (task : Task) (image : Image) : Type 0 where
  -- what the netlist is told in each mode
  pub isas : Isas task.netlist
  pub bits : image.bits ≡ word_width task.netlist
  -- the temporary cells, and the variables at the task's places
  pub layout : IsLaidAt task image
  -- each job has its mode and its chosen cover, whose cost is told with its tree's number
  pub plans : List PlanModel
  pub planned : ArePlans task isas plans
  pub costs : image.costs ≡ numbered 0 (plan_costs (task_jobs task) plans)
  -- what stands at the places of the task's flow: blocks of so many words, tests with their
  -- branches, jumps and the end, where in rounds each relative branch became three words that
  -- doesn't show its distance. Tests and jumps have the forms of mode 0 that keep it
  pub sizes : List ℕ
  pub branches : List Branch
  pub parts : List LayoutPart
  pub settled : IsFixpoint (isas 0).keeping (parts_of (isas 0).keeping task.flow sizes branches) parts
  -- the groups and the words of each block and of each test's operands, by the block's number
  pub groups : ℕ → List (List Step)
  pub words : ℕ → List ℕ
  pub blocks : (at n block size : ℕ) → IsAssignBlock task.flow at n
      → slice_get parts at ≡ Some (Block block size)
      → AreBlockCuts task isas
      (cuts_of (jobs_at task.flow (task_jobs task) at n) (plans_at task.flow plans at n))
      (groups block) (words block)
      × (size ≡ length (words block))
  pub tests : (at : ℕ) (f : BranchedTest) → slice_get parts at ≡ Some (Test f)
      → (job : JobModel) → slice_get (task_jobs task) f.tree ≡ Some job
      → (planned : PlanModel) → slice_get plans f.tree ≡ Some planned
      → AreTestWords (base_at task.netlist 0) task.netlist.special (isas 0).patterns (mode_stock task isas 0)
      job planned.choice (groups f.block) (words f.block) f
  -- these words, and the jump and branch words between them, are all words of the image, in the
  -- order of the flow
  pub stand : StandItems (base_at task.netlist 0) task.netlist.special (isas 0).patterns words (words_of image) 0
      (items_from (isas 0).keeping (jump_form (isas 0).keeping (greatest_reach (isas 0).keeping)) (starts parts) 0 parts)
  pub long : length (words_of image) ≡ total parts
  -- each test has one mark with its tree's number, at the first word of its code, and the last word
  -- has that of the end
  pub marks : image.marks ≡ marks_from 0 parts
  pub marked : AreMarked task.flow (length (words_of image)) image.marks
  -- there are no more words than the bound
  pub most : length (words_of image) ≤ program_bound task.program (plan_costs (task_jobs task) plans)
  -- each word lists the patterns of its group's steps, or that of its jump or branch, by the numbers
  -- of the mode in which it runs
  pub lists : ListItems groups
      (items_from (isas 0).keeping (jump_form (isas 0).keeping (greatest_reach (isas 0).keeping)) (starts parts) 0 parts)
      image.words

-- right code: an image made for the task, which traces the program
pub record IsRightImage (task : Task) (image : Image) : Type 0 where
  pub made : IsMadeFor task image
  pub traces : TracesRight task.netlist image (strace task.width task.program)
