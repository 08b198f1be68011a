-- Code as the layout orders it: what is known of each part.
use Rattle.std.specs.Prelude.{ℕ, ◌<◌, ◌≤◌, ◌^◌, ◌≡◌, Bool, true, List, length, Some, slice_get, zero, suc, [], ◌∷◌, ◌++◌, Option}
use Rattle.net_model.specs.declared.hardware.Netlist.{Netlist}
use Rattle.net_model.specs.CheckedRules.{code_size}
use Rattle.net_model.specs.Nets.{counter_width}
use Rattle.net_model.specs.Patterns.{Pattern}
use Rattle.code_model.specs.declared.image.Image.{Image}
use Rattle.code_model.specs.Places.{words_of}
use Rattle.form_model.specs.declared.flow.Flow.{Flow}
use Rattle.form_model.specs.Shapes.{shows}
use Rattle.form_model.specs.Forms.{FormModel, TargetModel, absolute, relative, branches, tested}
use Rattle.form_model.specs.Covers.{StockModel, JobCoverModel}
use Rattle.form_model.specs.declared.forms.Step.{Step}
use Rattle.compaction.specs.Laws.{operation_in}
use Rattle.form_model.specs.Live.{Regs}
use Rattle.form_model.specs.Steps.{branch_setting}
use Rattle.emit_seq.specs.Spares.{wanted}
use Rattle.compaction.specs.Meant.{MeansSteps}
use Rattle.src_trees.specs.Lowered.{JobModel}
use Rattle.src_trees.specs.Blocks.{IsAssignBlock, jobs_at}
use Rattle.branch_fix.specs.Parts.{total, starts, marks_from}
use Rattle.branch_fix.specs.Items.{jump_form, items_from}
use Rattle.branch_fix.specs.declared.part.BranchedTest.{BranchedTest}
use Rattle.branch_fix.specs.declared.part.LayoutPart.{LayoutPart}
use Rattle.branch_fix.specs.declared.part.LayoutPart.TheVariants.{Block, Test}
use Rattle.right_code.specs.Jobs.{IsCovered, jobs_steps, job_steps, tree_used}
use Rattle.right_code.specs.Inner.Jobs.{AreCovered}
use Rattle.right_code.specs.Forks.{cover_form}
use Rattle.right_code.specs.Inner.Forks.{IsBranchForm, IsJumpForm, test_of}
use Rattle.std.specs.List.{AllByRecursion}
use Rattle.code_model.specs.Words.{KeepsMode}
use Rattle.branch_fix.specs.Sections.{Section, section_jobs}
use Rattle.right_code.specs.Inner.Blocks.{IsKit, IsModeWordMade, Kit, Machine}
use Rattle.right_code.specs.Words.{AreGroupWords, StandItems}
use Rattle.right_code.specs.Laid.{IsLayout}

-- ---- jump and branch forms

-- the target shows each address of the code, a relative one the two words to the jump behind a long
-- branch
abbrev pub TargetReaches : ℕ → TargetModel → Type 0
TargetReaches reach (absolute shape) = (v : ℕ) → v < reach → shows shape v ≡ true
TargetReaches reach (relative shape) = shows shape 2 ≡ true

-- the first jump form of this reach shows each address below it, and each branch form is made of
-- its pattern
pub record AreTurns (netlist : Netlist) (patterns : List Pattern) (forms : List FormModel) (reach : ℕ) : Type 0 where
  pub form : FormModel
  pub first : jump_form forms reach ≡ Some form
  pub jump : IsJumpForm netlist patterns form
  pub shown : (v : ℕ) → v < reach → shows form.value v ≡ true
  pub narrow : reach ≤ 2 ^ counter_width netlist
  pub forks : (k : ℕ) (turn : FormModel) (when_one : Bool) (way : TargetModel) →
      slice_get forms k ≡ Some turn → turn.goal ≡ branches when_one way →
      IsBranchForm netlist patterns turn when_one way
  pub reaches : (k : ℕ) (turn : FormModel) (when_one : Bool) (way : TargetModel) →
      slice_get forms k ≡ Some turn → turn.goal ≡ branches when_one way → TargetReaches reach way

-- ---- blocks and tests

-- a block's words are those of groups that mean the steps of its jobs' covers, so many, and keep
-- the mode
pub record IsBlockReady (netlist : Netlist) (special : Option ℕ) (patterns : List Pattern)
    (stock : StockModel) (jobs : List JobModel) (words : List ℕ) (size : ℕ) : Type 0 where
  pub choices : List JobCoverModel
  pub covered : AreCovered stock jobs choices
  pub live : Regs
  pub groups : List (List Step)
  pub means : MeansSteps netlist (operation_in netlist patterns) live (jobs_steps stock jobs choices) groups
  pub least : AreGroupWords netlist patterns groups live words
  pub long : size ≡ length words
  pub kept : AllByRecursion (KeepsMode special netlist) words

-- the words of a section: those of its jobs in its mode, between the mode words of one other than 0;
-- the kit is that of mode 0
abbrev pub IsSectionReady : Machine → Kit → ℕ → List JobModel → ℕ → List ℕ → Type 0
IsSectionReady m kit zero jobs n words = IsBlockReady kit.netlist m.netlist.special kit.patterns kit.stock jobs words n
IsSectionReady m kit (suc v) jobs n words =
    (other : Kit) × IsKit m (suc v) other
    × (first : ℕ) × (inner : List ℕ) × (last : ℕ) × (words ≡ first ∷ (inner ++ last ∷ []))
    × IsModeWordMade kit.netlist m.netlist.special first (suc v)
    × IsBlockReady other.netlist m.netlist.special other.patterns other.stock jobs inner n
    × IsModeWordMade other.netlist m.netlist.special last 0

abbrev pub AreSectionsReady : Machine → Kit → List Section → List ℕ → Type 0
AreSectionsReady m kit [] words = words ≡ []
AreSectionsReady m kit (x ∷ sections) words =
    (own : List ℕ) × (rest : List ℕ) × (words ≡ own ++ rest)
    × IsSectionReady m kit x.mode x.jobs x.words own × AreSectionsReady m kit sections rest

-- a block's words are those of sections with its jobs, so many
pub record IsModeBlockReady (m : Machine) (kit : Kit) (jobs : List JobModel)
    (words : List ℕ) (size : ℕ) : Type 0 where
  pub sections : List Section
  pub are : jobs ≡ section_jobs sections
  pub ready : AreSectionsReady m kit sections words
  pub long : size ≡ length words

-- a test's words are those of groups that mean the steps of its cover, with the registers of the
-- condition live behind them, and its branch has the cover's form and setting
pub record IsForkReady (netlist : Netlist) (special : Option ℕ) (patterns : List Pattern)
    (stock : StockModel) (job : JobModel) (words : List ℕ) (f : BranchedTest) : Type 0 where
  pub choice : JobCoverModel
  pub covered : IsCovered stock (test_of job) choice
  pub live : Regs
  pub groups : List (List Step)
  pub means : MeansSteps netlist (operation_in netlist patterns) live (job_steps stock (test_of job) choice) groups
  pub least : AreGroupWords netlist patterns groups live words
  pub long : f.words ≡ length words
  pub kept : AllByRecursion (KeepsMode special netlist) words
  pub wants : (r : ℕ) → wanted stock tested (tree_used (test_of job) choice) choice.cover r ≡ true → live r ≡ true
  pub form : slice_get stock.forms f.form ≡ Some (cover_form stock choice.cover)
  pub setting : f.setting ≡ branch_setting stock (tree_used (test_of job) choice) choice.cover

-- ---- the code

-- an image holds the words of the layout's items in their order, where each block and each test is
-- ready. Tests and jumps are of mode 0
pub record IsLaidCode (m : Machine) (kit : Kit) (image : Image) (flow : List Flow)
    (jobs : List JobModel) (parts : List LayoutPart) (reach : ℕ) : Type 0 where
  pub layout : IsLayout kit.stock.forms flow parts reach
  pub room : total parts ≤ code_size kit.netlist.codes
  pub marks : image.marks ≡ marks_from 0 parts
  pub words : ℕ → List ℕ
  pub stand : StandItems kit.netlist m.netlist.special kit.patterns words (words_of image) 0
      (items_from kit.stock.forms (jump_form kit.stock.forms reach) (starts parts) 0 parts)
  pub long : length (words_of image) ≡ total parts
  pub blocks : (at n block size : ℕ) → IsAssignBlock flow at n →
      slice_get parts at ≡ Some (Block block size) →
      IsModeBlockReady m kit (jobs_at flow jobs at n) (words block) size
  pub forks : (at : ℕ) (f : BranchedTest) → slice_get parts at ≡ Some (Test f) →
      (job : JobModel) → slice_get jobs f.tree ≡ Some job →
      IsForkReady kit.netlist m.netlist.special kit.patterns kit.stock job (words f.block) f
