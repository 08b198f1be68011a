-- What three files say together: a netlist with a bank, a program for its words, and which variables
-- stand in the bank; and what holds of it.
use Rattle.std.specs.Prelude.{ℕ, ◌≡◌, List, true}
use Rattle.net_model.specs.Editions.{is_banked}
use Rattle.net_model.specs.Elaborated.{netlist_of}
use Rattle.net_model.specs.Written.{UnitsModel}
use Rattle.isa_extract.specs.Extracts.{IsRoutedFile}
use Rattle.src_model.specs.Written.{ProgramModel}
use Rattle.src_front.specs.Fronts.{IsSrcFile}
use Rattle.dual_bank.specs.Parts.{IsPart}
use Rattle.right_code.specs.Tasks.{Property}
use Rattle.compile_command.specs.Tasks.{data_width}
use Rattle.dual_command.specs.RightDual.{DualTask, dual_task}

-- the bytes are those of a netlist that has a bank and keeps all rules
pub record HasBankedNet (net : List ℕ) : Type 0 where
  pub entries : UnitsModel
  pub file : IsRoutedFile net entries
  pub banked : is_banked entries.edition ≡ true

-- the second bytes are a program's for its words
pub record HasBankedProgram (net src : List ℕ) : Type 0 where
  pub net_file : HasBankedNet net
  pub program : ProgramModel
  pub src_file : IsSrcFile src (data_width net_file.entries) program

-- the third bytes tell a part of its variables, and the task is theirs
pub record IsDualTask (net src part : List ℕ) (task : DualTask) : Type 0 where
  pub net_file : HasBankedNet net
  pub netlist : task.netlist ≡ netlist_of net_file.entries
  pub width : task.width ≡ data_width net_file.entries
  pub src_file : IsSrcFile src task.width task.program
  pub part_file : IsPart task.program.vars part task.in_bank

-- a property of such a task
abbrev pub DualProperty : Type 1
DualProperty = DualTask → Type 0

-- they are, and this holds of the task
pub record DualHolds (net src part : List ℕ) (P : DualProperty) : Type 0 where
  pub task : DualTask
  pub is : IsDualTask net src part task
  pub holds : P task

-- they are, and this holds of the task on the view
abbrev pub ViewHolds : (net src part : List ℕ) → Property → Type 0
ViewHolds net src part P = DualHolds net src part (λ (task : DualTask). P (dual_task task))
