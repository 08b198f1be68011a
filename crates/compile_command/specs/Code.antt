-- The text of a task's code, and why there is none. Everything here is of a task. An image that is
-- right code for a task *and that its netlist holds* (`IsRightFor`): the memory has room for the
-- program, jumps reach as far as its code may be long, and its code has no fewer words; what
-- `compile`, `go` and `make` speak of. What is written for a task, bytes that the grammar of
-- images reads as such an image; when each refusal comes: too few cells, and behind that what
-- `code_gen` refuses; and that nothing is refused, whatever image is made: the bound of the words
-- is within the jumps' reach and the code.
use Rattle.std.specs.Prelude.{ℕ, ◌≡◌, ◌≤◌, ◌<◌, List}
use Rattle.net_model.specs.CheckedRules.{code_size}
use Rattle.net_model.specs.Nets.{memory_size}
use Rattle.code_model.specs.declared.image.Image.{Image}
use Rattle.code_model.specs.ImageFits.{IsFitting, limits_of}
use Rattle.code_model.specs.ImageLines.{IsImageText}
use Rattle.code_model.specs.Layout.{need_of}
use Rattle.right_code.specs.Images.{IsRightImage}
use Rattle.right_code.specs.Tasks.{Property, Task}
use Rattle.code_gen.specs.Refusals.{IsCodeFault, IsReached}
use Rattle.code_gen.specs.declared.fault.CodeFault.TheVariants.{NoStep as Stepless, NoJump as Jumpless, NoCover as Uncovered, NoReach as Beyond, ImageFull as Overlong}
use Rattle.compile_command.specs.declared.fault.CompileFault.{CompileFault}
use Rattle.compile_command.specs.declared.fault.CompileFault.TheVariants.{DataFull, NoStep, NoJump, NoCover, NoReach, ImageFull, Memory}

-- the program needs more cells than the memory has, and these are the numbers
pub record IsDataFull (need have : ℕ) (task : Task) : Type 0 where
  pub needs : need ≡ need_of task.width task.program
  pub has : have ≡ memory_size task.netlist.storages
  pub more : have < need

-- the memory has the cells that the program needs
pub record HasRoom (task : Task) : Type 0 where
  pub room : need_of task.width task.program ≤ memory_size task.netlist.storages

-- an image that is right code for a task whose netlist holds it: the memory has room for the
-- program, jumps reach as far as its code may be long, the image is made for the task and traces
-- the program, and it fits the netlist, whose code has no fewer words
pub record IsRightFor (image : Image) (task : Task) : Type 0 where
  pub room : HasRoom task
  pub reached : IsReached task
  pub right : IsRightImage task image
  pub fits : IsFitting (limits_of task.netlist) image

-- there is such an image
pub record HasRightCode (task : Task) : Type 0 where
  pub image : Image
  pub right : IsRightFor image task

-- bytes that are read as such an image
pub record IsCode (out : List ℕ) (task : Task) : Type 0 where
  pub image : Image
  pub right : IsRightFor image task
  pub read : IsImageText (limits_of task.netlist) out image

-- whatever image is made for it, nothing is refused: it has room, a step, a jump, covers of all
-- trees, and the bound of its words is within the reach of the jumps and within the code
pub record IsWithin (task : Task) : Type 0 where
  pub room : HasRoom task
  pub reached : IsReached task
  pub small : reached.bound ≤ code_size task.netlist.codes

-- when each refusal comes; nothing is said where memory ran out
abbrev pub IsTaskFault : Task → CompileFault → Type 0
IsTaskFault task (DataFull need have) = IsDataFull need have task
IsTaskFault task NoStep = HasRoom task × IsCodeFault task Stepless
IsTaskFault task NoJump = HasRoom task × IsCodeFault task Jumpless
IsTaskFault task (NoCover number) = HasRoom task × IsCodeFault task (Uncovered number)
IsTaskFault task (NoReach bound reach) = HasRoom task × IsCodeFault task (Beyond bound reach)
IsTaskFault task (ImageFull len size bound) = HasRoom task × IsCodeFault task (Overlong len size bound)
IsTaskFault task Memory = Unit {0}
IsTaskFault task _ = ⊥

-- why its program has no places
abbrev pub IsPlaceFault : Task → CompileFault → Type 0
IsPlaceFault task (DataFull need have) = IsDataFull need have task
IsPlaceFault task Memory = Unit {0}
IsPlaceFault task _ = ⊥

-- when each refusal comes, of one fault
abbrev pub FailsWith : CompileFault → Property
FailsWith fault task = IsTaskFault task fault
