-- What two files say together, and what holds of it. Two texts are a netlist's that keeps all
-- rules and a program's for its words, and say one task (`proofs/TaskLemmas`), in which the
-- variables stand behind the temporary cells and the jobs are the program's own; so what holds of
-- their task is a property of the texts.
use Rattle.std.specs.Prelude.{ℕ, ◌≡◌, List}
use Rattle.net_model.specs.Nets.{memory_width}
use Rattle.net_model.specs.Written.{UnitsModel}
use Rattle.net_front.specs.Fronts.{taken_of}
use Rattle.isa_extract.specs.Taken.{IsRoutedTaken}
use Rattle.src_front.specs.Fronts.{IsSrcFile}
use Rattle.right_code.specs.Tasks.{Property, Task, row_task}

-- the newest edition of the netlist texts for which programs are compiled: those of the next have a
-- bank
abbrev pub compiled_edition : ℕ
compiled_edition = 3

-- how many bits a word has: the width of the data memory that these items say
abbrev pub data_width : UnitsModel → ℕ
data_width entries = memory_width (taken_of entries).storages

-- the first bytes are a netlist's that keeps all rules, the second a program's for its words, and
-- the task is theirs, with the variables behind the temporary cells
pub record IsTask (net src : List ℕ) (task : Task) : Type 0 where
  pub entries : UnitsModel
  pub net_file : IsRoutedTaken compiled_edition net entries
  pub netlist : task.netlist ≡ taken_of entries
  pub width : task.width ≡ data_width entries
  pub src_file : IsSrcFile src task.width task.program
  pub row : task ≡ row_task task.netlist task.width task.program

-- they are, and this holds of the task
pub record TaskHolds (net src : List ℕ) (P : Property) : Type 0 where
  pub task : Task
  pub is : IsTask net src task
  pub holds : P task
