-- What two files say together: a netlist and a program for the words of its data memory; and what
-- is made of that before any form is known. A task is a netlist, the width of a word, a program,
-- the places of its variables in the netlist's memory, its flow and its jobs; its forms with its
-- temporary cells and the cells of the register file. It is *checked* where both keep their rules,
-- the netlist in each mode, a word has the memory's width, the memory holds the variables and has
-- room, the flow is the program's but for tests that are turned, and the jobs do what the
-- program's statements say, once those of turned tests are turned back. The task of two files
-- (`row_task`) has the variables behind each other, and the program's own flow and jobs.
use Rattle.std.specs.Prelude.{ℕ, ◌≡◌, List, None, length}
use Rattle.net_model.specs.declared.hardware.Netlist.{Netlist}
use Rattle.net_model.specs.CheckedRules.{memory_addr_width}
use Rattle.net_model.specs.declared.hardware.Space.TheVariants.{File as InFile}
use Rattle.net_model.specs.Nets.{memory_size, memory_width, size_in}
use Rattle.src_model.specs.declared.typed.Typed.{Typed}
use Rattle.src_model.specs.Rules.{first_fault, temp_count}
use Rattle.src_model.specs.Sizes.{statements_in}
use Rattle.src_model.specs.Written.{ProgramModel, model_of_program, stmts_of}
use Rattle.code_model.specs.declared.image.Place.{Place as VariablePlace}
use Rattle.form_model.specs.declared.flow.Flow.{Flow}
use Rattle.form_model.specs.Covers.{StockModel}
use Rattle.form_model.specs.Forms.{FormModel}
use Rattle.net_model.specs.ModeRules.{KeepsModes, Moded}
use Rattle.src_trees.specs.Flows.{program_flow, program_jobs}
use Rattle.src_trees.specs.Held.{HasCellRoom, HoldsVars}
use Rattle.src_trees.specs.Lowered.{MemoryMap, JobModel}
use Rattle.src_trees.specs.Measures.{AllSmall}
use Rattle.src_trees.specs.Meant.{DoProgram}
use Rattle.src_trees.specs.Seen.{memory_map}
use Rattle.src_trees.specs.Turned.{Turns, TurnsTests, jobs_of_told, turned_flow}
use Rattle.right_code.specs.FlowJobs.{AllOne, AreFlowJobs, node_limit}

-- a netlist, how many bits a word has, a program that keeps the rules for such words, where its
-- variables stand in the netlist's data memory, its flow and its jobs
pub record Task : Type 0 where
  pub netlist : Netlist
  pub width : ℕ
  pub program : ProgramModel
  pub places : List VariablePlace
  pub flow : List Flow
  pub jobs : List JobModel

-- the data memory with the program's variables
abbrev pub task_memory : Task → MemoryMap
task_memory task = record {
  word = task.width;
  addr = memory_addr_width task.netlist.storages;
  places = task.places;
}

-- its jobs, and its temporary cells
abbrev pub task_jobs : Task → List JobModel
task_jobs task = task.jobs

abbrev pub task_temps : Task → ℕ
task_temps task = temp_count task.width task.program

-- the program's variables stand at these places, behind its temporary cells; the flow is the
-- program's, where some tests may be turned; and these are jobs that do what its statements say, once
-- those of turned tests are turned back: one for each tree, of one tree but for tests, and none too
-- large
pub record HasJobs (task : Task) : Type 0 where
  pub held : HoldsVars (task_temps task) task.program.vars (task_memory task)
  pub room : HasCellRoom (task_temps task) (task_memory task) (memory_size task.netlist.storages)
  pub turned : Turns
  pub only : TurnsTests turned (program_flow task.program)
  pub flow : task.flow ≡ turned_flow turned (program_flow task.program)
  pub meant : DoProgram (task_memory task) (task_temps task) task.program (jobs_of_told turned task.jobs)
  pub count : length task.jobs ≡ statements_in (stmts_of task.program.body)
  pub one : AllOne task.jobs
  pub tests : AreFlowJobs task.jobs task.flow
  pub small : AllSmall task.width (task_temps task) node_limit task.jobs

-- the netlist keeps its rules in each mode, and the program its own; its words are those of the data
-- memory, which has room for its variables
pub record IsChecked (task : Task) : Type 0 where
  pub netlist : KeepsModes task.netlist
  pub program : first_fault task.width task.program ≡ None
  pub words : memory_width task.netlist.storages ≡ task.width
  pub jobs : HasJobs task

-- a property of a task
abbrev pub Property : Type 1
Property = Task → Type 0

-- ---- the task of one memory

-- the variables stand behind the temporary cells
abbrev pub row_memory : Netlist → ℕ → ProgramModel → MemoryMap
row_memory netlist width l = memory_map width (memory_addr_width netlist.storages) (temp_count width l) l.vars

abbrev pub row_task : Netlist → ℕ → ProgramModel → Task
row_task netlist width l = record {
  netlist = netlist;
  width = width;
  program = l;
  places = (row_memory netlist width l).places;
  flow = program_flow l;
  jobs = program_jobs (row_memory netlist width l) l;
}

-- that of a netlist and a program that were read
abbrev pub read_task : Moded → Typed → Task
read_task modes typed = row_task modes.netlist typed.width (model_of_program typed.program)

-- forms, the program's temporary cells, and the cells of the register file
abbrev pub task_stock : List FormModel → Task → StockModel
task_stock forms task = record {
  forms = forms;
  temps = temp_count task.width task.program;
  file = size_in InFile task.netlist.storages;
}
