-- What is written for the texts of a netlist and a program by equal trees, and when each refusal
-- comes.
use Rattle.std.specs.Prelude.{ℕ, List}
use Rattle.code_model.specs.declared.image.Image.{Image}
use Rattle.code_model.specs.ImageFits.{IsFitting, limits_of}
use Rattle.code_model.specs.ImageLines.{IsImageText}
use Rattle.net_parser.specs.Texts.{IsNoNetText}
use Rattle.isa_extract.specs.Taken.{BreaksAnyTaken}
use Rattle.src_parser.specs.Texts.{IsNoSrcText}
use Rattle.right_code.specs.Tasks.{Property, Task}
use Rattle.code_gen.specs.Refusals.{IsReached}
use Rattle.code_gen.specs.Spelled.{HasSpelling, IsRightByEqualTrees, IsTunedFault}
use Rattle.code_gen.specs.declared.fault.CodeFault.TheVariants.{NoStep as Stepless, NoJump as Jumpless, NoCover as Uncovered, NoReach as Beyond, ImageFull as Overlong}
use Rattle.compile_command.specs.Code.{HasRoom, IsDataFull}
use Rattle.compile_command.specs.Compiled.{BreaksSrc, HasNet}
use Rattle.compile_command.specs.Tasks.{TaskHolds, compiled_edition}
use Rattle.compile_command.specs.declared.fault.CompileFault.{CompileFault}
use Rattle.compile_command.specs.declared.fault.CompileFault.TheVariants.{NetText, Net, SrcText, Src, DataFull, NoStep, NoJump, NoCover, NoReach, ImageFull, Memory}

-- an image that is right code for a task by equal trees, and that its netlist holds: the memory has
-- room for the program, and jumps reach as far as the code of the task in some spelling may be long
pub record IsTunedFor (image : Image) (task : Task) : Type 0 where
  pub room : HasRoom task
  pub reached : HasSpelling IsReached task
  pub right : IsRightByEqualTrees task image
  pub fits : IsFitting (limits_of task.netlist) image

-- bytes that are read as such an image
pub record IsTunedCode (out : List ℕ) (task : Task) : Type 0 where
  pub image : Image
  pub right : IsTunedFor image task
  pub read : IsImageText (limits_of task.netlist) out image

-- when each refusal comes, of a task; nothing is said where memory ran out
abbrev pub IsTunedTaskFault : Task → CompileFault → Type 0
IsTunedTaskFault task (DataFull need have) = IsDataFull need have task
IsTunedTaskFault task NoStep = HasRoom task × IsTunedFault task Stepless
IsTunedTaskFault task NoJump = HasRoom task × IsTunedFault task Jumpless
IsTunedTaskFault task (NoCover number) = HasRoom task × IsTunedFault task (Uncovered number)
IsTunedTaskFault task (NoReach bound reach) = HasRoom task × IsTunedFault task (Beyond bound reach)
IsTunedTaskFault task (ImageFull len size bound) = HasRoom task × IsTunedFault task (Overlong len size bound)
IsTunedTaskFault task Memory = Unit {0}
IsTunedTaskFault task _ = ⊥

abbrev pub TuneFailsWith : CompileFault → Property
TuneFailsWith fault task = IsTunedTaskFault task fault

-- ---- texts

-- the third bytes are read as an image that is right code by equal trees for the program of the
-- second on the netlist of the first
abbrev pub IsTuned : (net src out : List ℕ) → Type 0
IsTuned net src out = TaskHolds net src (IsTunedCode out)

-- when each refusal comes; nothing is said where memory ran out
abbrev pub IsTuneFault : (net src : List ℕ) → CompileFault → Type 0
IsTuneFault net src (NetText at) = IsNoNetText net at
IsTuneFault net src (Net fault) = BreaksAnyTaken compiled_edition net fault
IsTuneFault net src (SrcText at) = HasNet net × IsNoSrcText src at
IsTuneFault net src (Src fault) = BreaksSrc net src fault
IsTuneFault net src Memory = Unit {0}
IsTuneFault net src fault = TaskHolds net src (TuneFailsWith fault)
