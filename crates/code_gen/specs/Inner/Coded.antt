-- The groups and the words of a program's blocks and tests, as far as they are made.
use Rattle.net_model.specs.ModeRules.{base_at}
use Rattle.mode_set.specs.declared.puts.ModeWord.{ModeWord}
use Rattle.mode_set.specs.Costs.{PlanModel}
use Rattle.mode_set.specs.Keeping.{Isas}
use Rattle.right_code.specs.Covered.{mode_stock}
use Rattle.right_code.specs.Cuts.{AreBlockCuts, AreCutWords, Cut, cuts_of, plan_choices, plans_at, with_mode}
use Rattle.right_code.specs.Tasks.{Task}
use Rattle.code_gen.specs.declared.views.Modes.{Modes}
use Rattle.code_gen.specs.declared.views.PlannedProgram.{PlannedProgram}
use Rattle.code_gen.specs.Inner.Planning.{IsPlanning, plans_in, jobs_in}
use Rattle.form_model.specs.Live.{Regs, regs_of, singles}
use Rattle.word_fit.specs.Fits.{fits_over, FitsTurning, IsLeastFit}
use Rattle.word_fit.specs.Groups.{AllHaveWords}
use Rattle.std.specs.Prelude.{ℕ, ◌-◌, ◌<◌, ◌≡◌, List, [], ◌∷◌, ◌++◌, Some, length, slice_get, slice_index_or, slice_index}
use Rattle.code_model.specs.declared.image.Word.{Word}
use Rattle.compaction.specs.Laws.{operation_in}
use Rattle.branch_fix.specs.declared.outline.Branch.{Branch}
use Rattle.branch_fix.specs.declared.laid.Item.{Item}
use Rattle.branch_fix.specs.declared.laid.Item.TheVariants.{Group, Jump}
use Rattle.net_model.specs.declared.hardware.Netlist.{Netlist}
use Rattle.net_model.specs.Patterns.{Pattern}
use Rattle.form_model.specs.declared.forms.Step.{Step}
use Rattle.form_model.specs.Forms.{tested}
use Rattle.form_model.specs.Steps.{branch_setting}
use Rattle.form_model.specs.declared.flow.Flow.{Flow}
use Rattle.form_model.specs.declared.flow.Flow.TheVariants.{Test}
use Rattle.src_trees.specs.Blocks.{IsAssignBlock, jobs_at}
use Rattle.src_trees.specs.Lowered.{JobModel}
use Rattle.emit_seq.specs.Spares.{wanted}
use Rattle.branch_fix.specs.Parts.{branch_or_zero, blocks_before, tests_before}
use Rattle.right_code.specs.Forks.{cover_form}
use Rattle.right_code.specs.Jobs.{job_steps, tree_used}
use Rattle.right_code.specs.Words.{item_steps}
use Rattle.compaction.specs.Lists.{EachHasPatternsOnce, IsPatternList}
use Rattle.code_gen.specs.Blocks.{IsOnce, IsPackedBlock}
use Rattle.code_gen.specs.Machines.{known_netlist, known_patterns}
use Rattle.code_gen.specs.Inner.Views.{mode_bits}
use Rattle.compaction.specs.declared.machine.KnownMachine.{KnownMachine}
use Rattle.compaction.specs.declared.packer.PackedBlock.{PackedBlock}

-- ---- blocks

-- a block without groups
abbrev pub no_block : PackedBlock
no_block = record { groups = []; words = [] }

abbrev pub block_at : List PackedBlock → ℕ → PackedBlock
block_at blocks block = slice_index_or blocks block no_block

-- the words of a block and its groups, by its number
abbrev pub words_at : List PackedBlock → ℕ → List ℕ
words_at blocks block = (block_at blocks block).words

abbrev pub groups_at : List PackedBlock → ℕ → List (List Step)
groups_at blocks block = (block_at blocks block).groups

-- the groups and the words of a block are those of the cuts of its jobs
pub record IsRunCode (task : Task) (isas : Isas task.netlist) (jobs : List JobModel)
    (plans : List PlanModel) (block : PackedBlock) : Type 0 where
  pub cuts : AreBlockCuts task isas (cuts_of jobs plans) block.groups block.words

-- so they are for whatever task the program is planned for
abbrev pub AreCutsCoded : Modes → PlannedProgram → ℕ → ℕ → PackedBlock → Type 0
AreCutsCoded modes program at count block =
    (task : Task) (isas : Isas task.netlist) → IsPlanning modes program task isas →
    IsRunCode task isas (jobs_at program.flow.now (jobs_in program) at count)
    (plans_at program.flow.now (plans_in program) at count) block

-- ---- cuts, one after the other

-- these groups and words were put behind a block
pub record AddsGroups (old new : PackedBlock) (more : List (List Step)) (rest : List ℕ) : Type 0 where
  pub groups : new.groups ≡ old.groups ++ more
  pub words : new.words ≡ old.words ++ rest

-- a mode word is a group of its own
abbrev pub mode_group : ModeWord → List Step
mode_group word = record { pattern = word.pattern; setting = 0 } ∷ []

-- each of these steps has a word of a mode, where the mode alone is live behind them
abbrev pub HaveWordsIn : Modes → ℕ → List Step → Type 0
HaveWordsIn modes mode steps =
    (machine : KnownMachine) → slice_get modes.machines.now mode ≡ Some machine →
    AllHaveWords (operation_in (known_netlist machine) (known_patterns machine))
    (fits_over (known_netlist machine) (operation_in (known_netlist machine) (known_patterns machine)))
    (singles steps) (regs_of (mode_bits modes.special))

-- these steps, packed by the instruction set of a mode, were put behind a block
pub record AddsPacked (modes : Modes) (mode : ℕ) (steps : List Step) (old new : PackedBlock) : Type 0 where
  pub own : PackedBlock
  pub adds : AddsGroups old new own.groups own.words
  pub once : IsOnce own
  pub packed : (machine : KnownMachine) → slice_get modes.machines.now mode ≡ Some machine →
      IsPackedBlock (known_netlist machine) (known_patterns machine) steps (regs_of (mode_bits modes.special)) own

-- so were the jobs of so many places from one on, as a cut of a mode
pub record AddsRun (modes : Modes) (program : PlannedProgram) (mode at count : ℕ)
    (old new : PackedBlock) : Type 0 where
  pub groups : List (List Step)
  pub words : List ℕ
  pub adds : AddsGroups old new groups words
  pub once : EachHasPatternsOnce groups
  pub cut : (task : Task) (isas : Isas task.netlist) → IsPlanning modes program task isas →
      AreCutWords task isas mode (jobs_at program.flow.now (jobs_in program) at count)
      (plan_choices (plans_at program.flow.now (plans_in program) at count)) groups words

-- the cuts of the jobs from a place on, below an end
abbrev pub cuts_from : PlannedProgram → ℕ → ℕ → List Cut
cuts_from program at end =
    cuts_of (jobs_at program.flow.now (jobs_in program) at (end - at))
    (plans_at program.flow.now (plans_in program) at (end - at))

-- so were all cuts between two places: those behind may follow
pub record AddsCuts (modes : Modes) (program : PlannedProgram) (at next end : ℕ)
    (old new : PackedBlock) : Type 0 where
  pub groups : List (List Step)
  pub words : List ℕ
  pub adds : AddsGroups old new groups words
  pub once : EachHasPatternsOnce groups
  pub cuts : (task : Task) (isas : Isas task.netlist) → IsPlanning modes program task isas
      → (later : List (List Step)) (rest : List ℕ)
      → AreBlockCuts task isas (cuts_from program next end) later rest
      → AreBlockCuts task isas (cuts_from program at end) (groups ++ later) (words ++ rest)

-- ---- tests

-- the block of a test's operands, and its branch
pub record IsTestCode (task : Task) (isas : Isas task.netlist) (job : JobModel) (planned : PlanModel)
    (block : PackedBlock) (branch : Branch) : Type 0 where
  pub packed : IsPackedBlock (base_at task.netlist 0) (isas 0).patterns
      (job_steps (mode_stock task isas 0) job planned.choice)
      (with_mode task.netlist.special
      (wanted (mode_stock task isas 0) tested (tree_used job planned.choice) planned.choice.cover)) block
  pub form : slice_get (isas 0).keeping branch.form ≡ Some (cover_form (mode_stock task isas 0) planned.choice.cover)
  pub setting : branch.setting ≡ branch_setting (mode_stock task isas 0) (tree_used job planned.choice) planned.choice.cover

-- those of all blocks and tests that begin before a place of the flow
pub record IsBlockCode (task : Task) (isas : Isas task.netlist) (flow : List Flow)
    (jobs : List JobModel) (plans : List PlanModel) (upto : ℕ) (blocks : List PackedBlock)
    (branches : List Branch) : Type 0 where
  pub long : length blocks ≡ blocks_before flow upto
  pub many : length branches ≡ tests_before flow upto
  pub runs : (at n : ℕ) → at < upto → IsAssignBlock flow at n →
      IsRunCode task isas (jobs_at flow jobs at n) (plans_at flow plans at n) (block_at blocks (blocks_before flow at))
  pub tests : (at tree when_one when_zero : ℕ) → at < upto → slice_get flow at ≡ Some (Test tree when_one when_zero) →
      (job : JobModel) (planned : PlanModel) → slice_get jobs tree ≡ Some job → slice_get plans tree ≡ Some planned →
      IsTestCode task isas job planned (block_at blocks (blocks_before flow at))
      (branch_or_zero (slice_get branches (tests_before flow at)))

-- so they are for whatever task the program is planned for
abbrev pub AreCodedTo : Modes → PlannedProgram → ℕ → List PackedBlock → List Branch → Type 0
AreCodedTo modes program upto blocks branches =
    (task : Task) (isas : Isas task.netlist) → IsPlanning modes program task isas →
    IsBlockCode task isas program.flow.now (jobs_in program) (plans_in program) upto blocks branches

-- ---- the words of a layout

-- a jump or a branch has a word that keeps these registers
abbrev pub HasWord : Netlist → List Pattern → Regs → Item → Type 0
HasWord netlist patterns kept (Group block at) = Unit {0}
HasWord netlist patterns kept (Jump step) =
    (word : ℕ) × FitsTurning netlist word (operation_in netlist patterns step) kept

-- the word of an item: that of its group in its block, or the least jump or branch word that keeps
-- these registers
abbrev pub IsKeptWord : Netlist → List Pattern → Regs → (ℕ → List ℕ) → ℕ → Item → Type 0
IsKeptWord netlist patterns kept words i (Group block at) = i ≡ slice_index (words block) at
IsKeptWord netlist patterns kept words i (Jump step) =
    IsLeastFit (λ word. FitsTurning netlist word (operation_in netlist patterns step) kept) i

-- the word of an item, with the patterns of its steps
pub record IsWordOf (netlist : Netlist) (patterns : List Pattern) (kept : Regs)
    (blocks : List PackedBlock) (item : Item) (word : Word) : Type 0 where
  pub is : IsKeptWord netlist patterns kept (words_at blocks) word.word item
  pub lists : IsPatternList (item_steps (groups_at blocks) item) word.patterns

-- the words of items
abbrev pub AreItemWords : Netlist → List Pattern → Regs → List PackedBlock → List Item → List Word → Type 0
AreItemWords netlist patterns kept blocks [] [] = Unit {0}
AreItemWords netlist patterns kept blocks (item ∷ items) (word ∷ words) =
    IsWordOf netlist patterns kept blocks item word × AreItemWords netlist patterns kept blocks items words
AreItemWords netlist patterns kept blocks _ _ = ⊥
