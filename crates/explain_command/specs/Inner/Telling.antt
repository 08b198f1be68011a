-- Texts that grow, and what is told in them.
use Rattle.std.specs.Prelude.{ℕ, ◌≡◌, ◌≤◌, List, [], ◌∷◌, ◌++◌, None}
use Rattle.net_model.specs.declared.hardware.Netlist.{Netlist}
use Rattle.net_model.specs.CheckedRules.{Ordered}
use Rattle.net_model.specs.ModeRules.{KeepsModes, Moded}
use Rattle.isa_extract.specs.Extracts.{IsRoutedModes}
use Rattle.form_model.specs.Covers.{StockModel, stock_with}
use Rattle.form_model.specs.Forms.{FormModel}
use Rattle.job_places.specs.Places.{program_job_places}
use Rattle.right_code.specs.Forms.{AreFormsOf}
use Rattle.right_code.specs.Tasks.{Task, task_stock, task_jobs}
use Rattle.code_gen.specs.Refusals.{HasJumps}
use Rattle.compile_command.specs.Code.{HasRoom, IsTaskFault}
use Rattle.compile_command.specs.declared.fault.CompileFault.{CompileFault}
use Rattle.compile_command.specs.declared.fault.CompileFault.TheVariants.{NoCover, NoReach, ImageFull}
use Rattle.explain_command.specs.Explained.{AreJobTexts, explained_edition}
use Rattle.explain_command.specs.declared.subject.Subject.{Subject}

-- the netlist has no modes, and what it is in its only one is the netlist itself
pub record IsAlone (modes : Moded) : Type 0 where
  pub rules : KeepsModes modes.netlist
  pub plain : modes.netlist.special ≡ None
  pub base : Ordered
  pub bases : modes.bases ≡ base ∷ []
  pub same : base.netlist ≡ modes.netlist

-- this netlist, which was checked in its modes, is that of the bytes, whose edition has none
pub record IsPlainNet (net : List ℕ) (modes : Moded) : Type 0 where
  pub routed : IsRoutedModes net modes
  pub taken : routed.entries.edition ≤ explained_edition

abbrev pub netlist_of : Subject → Netlist
netlist_of subject = subject.checked.now.netlist

abbrev pub stock_of : Subject → StockModel
stock_of subject = stock_with subject.forms.now.list.items subject.temps subject.forms.now.file

-- what was added to a text is such a text
pub record Adds (Is : List ℕ → Type 0) (old new : List ℕ) : Type 0 where
  pub more : List ℕ
  pub is : Is more
  pub text : new ≡ old ++ more

-- what was added to a text is such a text once what is left has its own behind it
pub record Begins (Left Whole : List ℕ → Type 0) (old new : List ℕ) : Type 0 where
  pub more : List ℕ
  pub on : (later : List ℕ) → Left later → Whole (more ++ later)
  pub text : new ≡ old ++ more

-- the task has room and its netlist a step and a jump, and the text tells of all jobs
pub record IsTold (src text : List ℕ) (task : Task) : Type 0 where
  pub room : HasRoom task
  pub jumps : HasJumps task
  pub all : List FormModel
  pub reach : ℕ
  pub forms : AreFormsOf task.netlist all reach
  pub told : AreJobTexts task.netlist (task_stock all task) src 0 (program_job_places task.program) (task_jobs task) text

-- why the task's jobs are not told of; nothing is said where memory ran out
abbrev pub IsEarlyFault : Task → CompileFault → Type 0
IsEarlyFault task (NoCover number) = ⊥
IsEarlyFault task (NoReach bound reach) = ⊥
IsEarlyFault task (ImageFull len size bound) = ⊥
IsEarlyFault task fault = IsTaskFault task fault
