-- In which spelling a task is coded.
use Rattle.std.specs.Prelude.{ℕ, ◌≡◌, Bool, false, List, Some, slice_get, unwrap_or}
use Rattle.form_model.specs.declared.flow.Blocks.{Blocks}
use Rattle.mode_set.specs.Plans.{UsableAt, stock_at}
use Rattle.net_model.specs.Nets.{memory_width}
use Rattle.respell.specs.Kept.{AreSpelled}
use Rattle.right_code.specs.Tasks.{Task}
use Rattle.right_code.specs.FlowJobs.{node_limit}
use Rattle.src_trees.specs.Jobs.{models_of_jobs}
use Rattle.src_trees.specs.Turned.{Turns, turned_flow}
use Rattle.code_model.specs.declared.image.Places.{Places}
use Rattle.code_gen.specs.Inner.Imaged.{IsCodedIn}
use Rattle.code_gen.specs.Machines.{known_netlist}
use Rattle.code_gen.specs.Refusals.{IsCodeFault}
use Rattle.code_gen.specs.Spelled.{IsPlain, IsSpelledTask}
use Rattle.code_gen.specs.declared.fault.CodeFault.{CodeFault}
use Rattle.code_gen.specs.declared.fault.CodeFault.TheVariants.{NoStep, NoJump, Memory}
use Rattle.code_gen.specs.declared.spelling.Spelling.{Spelling}
use Rattle.code_gen.specs.declared.spelling.Spelling.TheVariants.{Own, Equal}
use Rattle.code_gen.specs.declared.views.Modes.{Modes}
use Rattle.compaction.specs.declared.machine.KnownMachine.{KnownMachine}

-- a test is turned where its job is marked
abbrev pub turns_of : List Bool → Turns
turns_of marks number = unwrap_or (slice_get marks number) false

-- equal trees are asked for of a program's own flow and jobs alone
abbrev pub MaySpell : Spelling → Task → Type 0
MaySpell Own task = Unit {0}
MaySpell Equal task = IsPlain task

-- a task that is coded so may be spelled so
pub record MayBeSpelled (spelling : Spelling) (modes : Modes) (usable : List Bool) (places : Places)
    (blocks : Blocks) : Type 0 where
  pub task : Task
  pub is : IsCodedIn modes usable places blocks task
  pub may : MaySpell spelling task

-- the task itself, or one in another spelling
abbrev pub IsSpelledAs : Spelling → Task → Task → Type 0
IsSpelledAs Own task spelled = spelled ≡ task
IsSpelledAs Equal task spelled = IsSpelledTask task spelled

-- there is such a task of which this holds
pub record SpelledSo (spelling : Spelling) (Said : Task → Type 0) (task : Task) : Type 0 where
  pub spelled : Task
  pub is : IsSpelledAs spelling task spelled
  pub said : Said spelled

-- what is said of each task that may be spelled so
abbrev pub OfSpelled : Spelling → Modes → List Bool → Places → Blocks → (Task → Type 0) → Type 0
OfSpelled spelling modes usable places blocks Said =
    (task : Task) → IsCodedIn modes usable places blocks task → MaySpell spelling task → Said task

-- when each refusal comes
abbrev pub IsSpelledFault : Spelling → CodeFault → Task → Type 0
IsSpelledFault spelling NoStep task = IsCodeFault task NoStep
IsSpelledFault spelling NoJump task = IsCodeFault task NoJump
IsSpelledFault spelling Memory task = Unit {0}
IsSpelledFault spelling fault task = SpelledSo spelling (λ (spelled : Task). IsCodeFault spelled fault) task

-- the flow and the jobs as they are, or by equal trees, over cells of the memory's width
abbrev pub AreBlocksIn : Spelling → Modes → List Bool → (temps : ℕ) → Blocks → Blocks → Type 0
AreBlocksIn Own modes usable temps blocks other = other ≡ blocks
AreBlocksIn Equal modes usable temps blocks other =
    (turned : Turns) × (machine : KnownMachine) × (slice_get modes.machines.now 0 ≡ Some machine)
    × AreSpelled (stock_at modes.forms.now temps) (UsableAt usable) (memory_width (known_netlist machine).storages) temps node_limit turned
    (models_of_jobs blocks.jobs.items) (models_of_jobs other.jobs.items)
    × (other.flow ≡ turned_flow turned blocks.flow)
