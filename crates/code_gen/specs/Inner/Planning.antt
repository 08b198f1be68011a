-- A program with the modes and the covers of its jobs, on what a netlist is in its modes.
use Rattle.std.specs.Prelude.{ℕ, suc, ◌+◌, ◌<◌, ◌≡◌, ◌↔◌, Bool, List, [], ◌∷◌, ◌++◌, Option, Some, None, length, map, slice_get}
use Rattle.std.specs.List.{AllZip}
use Rattle.bit_bdd.specs.Diagrams.{Diagrams}
use Rattle.net_model.specs.declared.hardware.Netlist.{Netlist}
use Rattle.net_model.specs.declared.hardware.Space.TheVariants.{File as InFile}
use Rattle.net_model.specs.Nets.{size_in}
use Rattle.net_model.specs.Patterns.{ArePatterns}
use Rattle.src_model.specs.Rules.{temp_count}
use Rattle.src_trees.specs.Jobs.{models_of_jobs}
use Rattle.src_trees.specs.Lowered.{JobModel}
use Rattle.form_model.specs.declared.forms.Forms.{Forms}
use Rattle.form_model.specs.Covers.{StockModel}
use Rattle.form_model.specs.Forms.{FormModel, models_of_forms}
use Rattle.net_model.specs.CheckedRules.{Ordered}
use Rattle.net_model.specs.ModeRules.{base_at, modes_in}
use Rattle.mode_set.specs.declared.plans.Plan.{Plan}
use Rattle.mode_set.specs.Costs.{PlanModel}
use Rattle.form_set.specs.Listing.{AreForms, greatest_reach}
use Rattle.mode_set.specs.Keeping.{AreKeeping, CanPut, CanUse, Isas, IsUsable}
use Rattle.mode_set.specs.ModeWords.{IsModeWord}
use Rattle.form_model.specs.declared.forms.Step.{Step}
use Rattle.mode_set.specs.Plans.{model_of_plan, stock_at, UsableAt}
use Rattle.right_code.specs.Jobs.{job_steps}
use Rattle.transfer_set.specs.Machines.{IsReadyFor}
use Rattle.compaction.specs.Tables.{AreTables, KnowsReads}
use Rattle.isa_extract.specs.declared.netlists.Isa.{Isa as Extracted}
use Rattle.right_code.specs.Covered.{ArePlans, plan_costs}
use Rattle.right_code.specs.Tasks.{IsChecked, Task, task_jobs}
use Rattle.code_gen.specs.declared.modes.FormsByMode.{FormsByMode}
use Rattle.compaction.specs.declared.machine.KnownMachine.{KnownMachine}
use Rattle.code_gen.specs.declared.views.Modes.{Modes}
use Rattle.code_gen.specs.declared.views.Operations.{Operations}
use Rattle.code_gen.specs.declared.views.Passage.{Passage}
use Rattle.code_gen.specs.declared.views.PlannedProgram.{PlannedProgram}
use Rattle.code_gen.specs.Machines.{known_netlist, known_patterns}

-- the patterns of a mode are ready in a book, and what their expressions read is told
pub record IsReadyMode (machine : KnownMachine) (book : Diagrams) : Type 0 where
  pub ready : IsReadyFor machine.machine book
  pub reads : KnowsReads machine

-- so they are in each mode, with a book of its own
abbrev pub AreReadyAll : List KnownMachine → List Diagrams → Type 0
AreReadyAll machines books = AllZip IsReadyMode machines books

abbrev pub AreReady : Modes → List Diagrams → Type 0
AreReady modes books = AreReadyAll modes.machines.now books

-- the pool and the patterns of a mode, with what the pool's expressions read
pub record AreOperationsOf (isa : Extracted) (operations : Operations) : Type 0 where
  pub pool : operations.pool ≡ isa.pool
  pub patterns : operations.patterns ≡ isa.patterns
  pub tables : AreTables isa.pool operations.tables.registers operations.tables.memory

abbrev pub AreOperations : List Extracted → List Operations → Type 0
AreOperations isas rest = AllZip AreOperationsOf isas rest

-- those of a mode were put behind the others
pub record AddsOperations (isa : Extracted) (old new : List Operations) : Type 0 where
  pub operations : Operations
  pub are : AreOperationsOf isa operations
  pub pushed : new ≡ old ++ operations ∷ []

-- a machine views what a netlist is in a mode, and the pool, the patterns and the reads of the mode
pub record IsView (base : Ordered) (operations : Operations) (machine : KnownMachine) : Type 0 where
  pub checked : machine.machine.checked.now ≡ base
  pub pool : machine.machine.pool.now ≡ operations.pool
  pub patterns : machine.machine.patterns.now ≡ operations.patterns
  pub registers : machine.registers.now ≡ operations.tables.registers
  pub memory : machine.memory.now ≡ operations.tables.memory

abbrev pub AreViews : List Ordered → List Operations → List KnownMachine → Type 0
AreViews [] [] [] = Unit {0}
AreViews (base ∷ bases) (operations ∷ rest) (machine ∷ machines) = IsView base operations machine × AreViews bases rest machines
AreViews _ _ _ = ⊥

-- these are a netlist in its modes, with the patterns of each
pub record AreMachinesOf (machines : List KnownMachine) (netlist : Netlist) : Type 0 where
  pub long : length machines ≡ modes_in netlist
  pub nets : (v : ℕ) (machine : KnownMachine) → slice_get machines v ≡ Some machine →
      known_netlist machine ≡ base_at netlist v
  pub patterns : (v : ℕ) (machine : KnownMachine) → slice_get machines v ≡ Some machine →
      ArePatterns (base_at netlist v) (known_patterns machine)

-- ---- the forms of each mode

-- the list that has all forms of a mode: without a mode register they are those that are kept
abbrev pub all_forms : Option ℕ → FormsByMode → List Forms
all_forms None list = list.kept.items
all_forms (Some mode) list = list.all.items

abbrev pub forms_or_none : Option Forms → List FormModel
forms_or_none None = []
forms_or_none (Some forms) = models_of_forms forms.list.items

abbrev pub listed_form_models : List Forms → ℕ → List FormModel
listed_form_models forms v = forms_or_none (slice_get forms v)

-- all forms that the list has of a mode
abbrev pub all_form_models : Netlist → FormsByMode → ℕ → List FormModel
all_form_models netlist list v = listed_form_models (all_forms netlist.special list) v

-- all forms of a netlist in a mode, and those that keep the mode
pub record AreFormsIn (netlist : Netlist) (v : ℕ) (machine : KnownMachine) (all kept : Forms) : Type 0 where
  pub forms : AreForms (base_at netlist v) (known_patterns machine) (models_of_forms all.list.items) all.reach
  pub keeping : AreKeeping (base_at netlist v) (known_patterns machine) netlist.special
      (models_of_forms all.list.items) (models_of_forms kept.list.items)
  pub reach : kept.reach ≡ greatest_reach (models_of_forms kept.list.items)
  pub file : kept.file ≡ size_in InFile netlist.storages

-- they are those of so many modes
pub record AreFormsBelow (netlist : Netlist) (machines : List KnownMachine) (n : ℕ) (list : FormsByMode) : Type 0 where
  pub all : length (all_forms netlist.special list) ≡ n
  pub kept : length list.kept.items ≡ n
  pub each : (v : ℕ) (machine : KnownMachine) (all kept : Forms) → v < n → slice_get machines v ≡ Some machine
      → slice_get (all_forms netlist.special list) v ≡ Some all → slice_get list.kept.items v ≡ Some kept
      → AreFormsIn netlist v machine all kept

-- the words into a mode and back
pub record IsPassage (netlist : Netlist) (isas : Isas netlist) (v : ℕ) (passage : Passage) : Type 0 where
  pub enter : IsModeWord (base_at netlist 0) netlist.special (isas 0).patterns (isas 0).all v
      passage.enter.pattern passage.enter.word
  pub leave : IsModeWord (base_at netlist v) netlist.special (isas v).patterns (isas v).all 0
      passage.leave.pattern passage.leave.word

-- the same, as the code is told of it
pub record IsPassageIn (netlist : Netlist) (machines : List KnownMachine) (list : FormsByMode) (v : ℕ)
    (passage : Passage) : Type 0 where
  pub enter : (machine : KnownMachine) → slice_get machines 0 ≡ Some machine →
      IsModeWord (base_at netlist 0) netlist.special (known_patterns machine) (all_form_models netlist list 0) v
      passage.enter.pattern passage.enter.word
  pub leave : (machine : KnownMachine) → slice_get machines v ≡ Some machine →
      IsModeWord (base_at netlist v) netlist.special (known_patterns machine) (all_form_models netlist list v) 0
      passage.leave.pattern passage.leave.word

-- some words, where one form of mode 0 puts the mode and one of the mode puts 0 back
abbrev pub IsPassageOrNone : Netlist → List KnownMachine → FormsByMode → ℕ → Option Passage → Type 0
IsPassageOrNone netlist machines list v (Some passage) = IsPassageIn netlist machines list v passage
IsPassageOrNone netlist machines list v None =
    CanPut netlist.special (all_form_models netlist list 0) v → CanPut netlist.special (all_form_models netlist list v) 0 → ⊥

-- each mode that can be used, but for 0, has its words
abbrev pub ArePassages : Netlist → List KnownMachine → FormsByMode → List (Option Passage) → Type 0
ArePassages netlist machines list passages =
    (v : ℕ) → CanUse netlist (all_form_models netlist list) (suc v) →
    (passage : Passage) × (slice_get passages (suc v) ≡ Some (Some passage)) × IsPassageIn netlist machines list (suc v) passage

-- what the code is told of a task's netlist in its modes is what these instruction sets say, and
-- each mode that can be used, but for 0, has its words
pub record AreTaskModes (modes : Modes) (task : Task) (isas : Isas task.netlist) : Type 0 where
  pub special : modes.special ≡ task.netlist.special
  pub machines : length modes.machines.now ≡ modes_in task.netlist
  pub nets : (v : ℕ) (machine : KnownMachine) → slice_get modes.machines.now v ≡ Some machine →
      known_netlist machine ≡ base_at task.netlist v
  pub patterns : (v : ℕ) (machine : KnownMachine) → slice_get modes.machines.now v ≡ Some machine →
      known_patterns machine ≡ (isas v).patterns
  pub lists : length modes.forms.now ≡ modes_in task.netlist
  pub forms : (v : ℕ) (forms : Forms) → slice_get modes.forms.now v ≡ Some forms →
      models_of_forms forms.list.items ≡ (isas v).keeping
  pub reach : (v : ℕ) (forms : Forms) → slice_get modes.forms.now v ≡ Some forms →
      forms.reach ≡ greatest_reach (isas v).keeping
  pub file : (v : ℕ) (forms : Forms) → slice_get modes.forms.now v ≡ Some forms →
      forms.file ≡ size_in InFile task.netlist.storages
  pub passages : (v : ℕ) → IsUsable task.netlist isas (suc v) →
      (passage : Passage) × (slice_get modes.passages.now (suc v) ≡ Some (Some passage))
      × IsPassage task.netlist isas (suc v) passage

-- the code is told of a task's netlist in its modes, and which of them can be used
pub record HasModes (modes : Modes) (marks : List Bool) (task : Task) : Type 0 where
  pub isas : Isas task.netlist
  pub are : AreTaskModes modes task isas
  pub long : length marks ≡ length modes.forms.now
  pub usable : (v : ℕ) → UsableAt marks v ↔ IsUsable task.netlist isas v

-- how far the jumps of a mode reach
abbrev pub reach_or_none : Option Forms → ℕ
reach_or_none None = 0
reach_or_none (Some forms) = forms.reach

abbrev pub reach_at : Modes → ℕ → ℕ
reach_at modes v = reach_or_none (slice_get modes.forms.now v)

abbrev pub jobs_in : PlannedProgram → List JobModel
jobs_in program = models_of_jobs program.jobs.now

abbrev pub plans_in : PlannedProgram → List PlanModel
plans_in program = map (λ (plan : Plan). model_of_plan plan) program.plans.now

-- what the jobs cost in their modes, as their plans tell it
abbrev pub told_costs : List Plan → List ℕ
told_costs plans = map (λ (plan : Plan). plan.cost) plans

abbrev pub costs_in : PlannedProgram → List ℕ
costs_in program = told_costs program.plans.now

-- the flow and the jobs are those of a task's program, and each job has its plan
pub record IsPlanning (told : Modes) (program : PlannedProgram) (task : Task)
    (isas : Isas task.netlist) : Type 0 where
  pub checked : IsChecked task
  pub modes : AreTaskModes told task isas
  pub temps : program.temps ≡ temp_count task.width task.program
  pub flow : program.flow.now ≡ task.flow
  pub jobs : jobs_in program ≡ task_jobs task
  pub plans : ArePlans task isas (plans_in program)
  pub costs : costs_in program ≡ plan_costs (jobs_in program) (plans_in program)

-- they are those of some task
pub record ArePlannedIn (modes : Modes) (program : PlannedProgram) : Type 0 where
  pub task : Task
  pub isas : Isas task.netlist
  pub planning : IsPlanning modes program task isas

-- the steps of jobs one after the other, each by the forms of its own mode
abbrev pub steps_in : (ℕ → StockModel) → List JobModel → List PlanModel → List Step
steps_in stock (job ∷ jobs) (planned ∷ plans) =
    job_steps (stock planned.mode) job planned.choice ++ steps_in stock jobs plans
steps_in stock _ _ = []

abbrev pub planned_steps : Modes → ℕ → List JobModel → List PlanModel → List Step
planned_steps modes temps = steps_in (stock_at modes.forms.now temps)
