-- The text of such a task's code, and why there is none. Everything here is of a task. Right code
-- that the netlist holds; what is written for a task; when each refusal comes, room of the memory
-- and then of the bank before what `code_gen` refuses of the view; and that nothing is refused.
use Rattle.std.specs.Prelude.{ℕ, ◌≤◌, List}
use Rattle.net_model.specs.CheckedRules.{code_size}
use Rattle.binding.specs.declared.fault.BindFault.TheVariants.{DataFull as NoRoom}
use Rattle.code_model.specs.declared.image.Image.{Image}
use Rattle.code_model.specs.ImageFits.{IsFitting, limits_of}
use Rattle.code_model.specs.ImageLines.{IsImageText}
use Rattle.dual_bank.specs.Layouts.{IsBankFault}
use Rattle.code_gen.specs.Refusals.{IsCodeFault, IsReached}
use Rattle.code_gen.specs.declared.fault.CodeFault.TheVariants.{NoStep as Stepless, NoJump as Jumpless, NoCover as Uncovered, NoReach as Beyond, ImageFull as Overlong}
use Rattle.compile_command.specs.declared.fault.CompileFault.{CompileFault}
use Rattle.compile_command.specs.declared.fault.CompileFault.TheVariants.{DataFull, NoStep, NoJump, NoCover, NoReach, ImageFull, Memory}
use Rattle.dual_command.specs.RightDual.{DualTask, HasBothRoom, IsRightDual, bank_room, dual_task, memory_room, need_in_bank, need_in_memory}
use Rattle.dual_command.specs.Tasks.{DualProperty}

-- the memory has fewer cells than are needed there, or else the bank, and these are the numbers
abbrev pub IsDualFull : (need have : ℕ) → DualProperty
IsDualFull need have task =
    IsBankFault (need_in_memory task) (memory_room task) (need_in_bank task) (bank_room task) (NoRoom need have)

-- an image that is right code for a task whose netlist holds it: both memories have room for the
-- program, jumps reach as far as its code may be long, the image is made for the task and traces
-- the program, and it fits the netlist, whose code has no fewer words
pub record IsRightDualFor (image : Image) (task : DualTask) : Type 0 where
  pub room : HasBothRoom task
  pub reached : IsReached (dual_task task)
  pub right : IsRightDual task image
  pub fits : IsFitting (limits_of task.netlist) image

-- bytes that are read as such an image
pub record IsDualCode (out : List ℕ) (task : DualTask) : Type 0 where
  pub image : Image
  pub right : IsRightDualFor image task
  pub read : IsImageText (limits_of task.netlist) out image

-- whatever image is made for it, nothing is refused
pub record IsDualWithin (task : DualTask) : Type 0 where
  pub room : HasBothRoom task
  pub reached : IsReached (dual_task task)
  pub small : reached.bound ≤ code_size task.netlist.codes

-- when each refusal comes; nothing is said where memory ran out
abbrev pub IsDualTaskFault : DualTask → CompileFault → Type 0
IsDualTaskFault task (DataFull need have) = IsDualFull need have task
IsDualTaskFault task NoStep = HasBothRoom task × IsCodeFault (dual_task task) Stepless
IsDualTaskFault task NoJump = HasBothRoom task × IsCodeFault (dual_task task) Jumpless
IsDualTaskFault task (NoCover number) = HasBothRoom task × IsCodeFault (dual_task task) (Uncovered number)
IsDualTaskFault task (NoReach bound reach) = HasBothRoom task × IsCodeFault (dual_task task) (Beyond bound reach)
IsDualTaskFault task (ImageFull len size bound) = HasBothRoom task × IsCodeFault (dual_task task) (Overlong len size bound)
IsDualTaskFault task Memory = Unit {0}
IsDualTaskFault task _ = ⊥

-- when each refusal comes, of one fault
abbrev pub DualFailsWith : CompileFault → DualProperty
DualFailsWith fault task = IsDualTaskFault task fault
