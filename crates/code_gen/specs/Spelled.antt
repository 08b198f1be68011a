-- Tasks whose jobs are spelled by equal trees, and right code for the program by such a task.
use Rattle.std.specs.Prelude.{ℕ, ◌≡◌, List}
use Rattle.code_model.specs.declared.image.Image.{Image}
use Rattle.code_model.specs.Right.{TracesRight}
use Rattle.form_model.specs.declared.flow.Flow.{Flow}
use Rattle.mode_set.specs.Keeping.{Isas, IsUsable}
use Rattle.src_model.specs.Trace.{strace}
use Rattle.src_trees.specs.Flows.{program_flow}
use Rattle.src_trees.specs.Lowered.{JobModel}
use Rattle.src_trees.specs.Meant.{DoProgram}
use Rattle.src_trees.specs.Turned.{Turns, turned_flow}
use Rattle.respell.specs.Kept.{AreSpelled}
use Rattle.right_code.specs.Covered.{mode_stock}
use Rattle.right_code.specs.Images.{IsMadeFor}
use Rattle.right_code.specs.Tasks.{Task, task_memory, task_temps}
use Rattle.right_code.specs.FlowJobs.{node_limit}
use Rattle.code_gen.specs.Refusals.{IsCodeFault}
use Rattle.code_gen.specs.declared.fault.CodeFault.{CodeFault}
use Rattle.code_gen.specs.declared.fault.CodeFault.TheVariants.{NoStep, NoJump, Memory}

-- the task's flow is the program's, and its jobs do what the program's statements say
pub record IsPlain (task : Task) : Type 0 where
  pub flow : task.flow ≡ program_flow task.program
  pub meant : DoProgram (task_memory task) (task_temps task) task.program task.jobs

-- a task with another flow and other jobs
abbrev pub with_jobs : Task → List Flow → List JobModel → Task
with_jobs task flow jobs = record {
  netlist = task.netlist;
  width = task.width;
  program = task.program;
  places = task.places;
  flow = flow;
  jobs = jobs;
}

-- a task in another spelling: each job stays, or one of equal trees stands for it that costs less, or
-- has a plan where the job has none; of a test that is turned the targets are exchanged
pub record IsSpelledTask (task spelled : Task) : Type 0 where
  pub isas : Isas task.netlist
  pub turned : Turns
  pub jobs : List JobModel
  pub are : AreSpelled (mode_stock task isas) (IsUsable task.netlist isas) task.width (task_temps task) node_limit turned
      task.jobs jobs
  pub is : spelled ≡ with_jobs task (turned_flow turned task.flow) jobs

-- there is such a task of which this holds
pub record HasSpelling (Said : Task → Type 0) (task : Task) : Type 0 where
  pub spelled : Task
  pub is : IsSpelledTask task spelled
  pub said : Said spelled

-- when each refusal comes: of the task itself what the netlist's forms lack, and of the task in some
-- spelling the others
abbrev pub IsTunedFault : Task → CodeFault → Type 0
IsTunedFault task NoStep = IsCodeFault task NoStep
IsTunedFault task NoJump = IsCodeFault task NoJump
IsTunedFault task Memory = Unit {0}
IsTunedFault task fault = HasSpelling (λ (spelled : Task). IsCodeFault spelled fault) task

-- an image made for the task in another spelling, which traces the program as it is written
pub record IsRightByEqualTrees (task : Task) (image : Image) : Type 0 where
  pub spelled : Task
  pub is : IsSpelledTask task spelled
  pub made : IsMadeFor spelled image
  pub traces : TracesRight task.netlist image (strace task.width task.program)
