-- A netlist and a program that were read, and compiled.
use Rattle.std.specs.Prelude.{ℕ, ◌≡◌, ◌<◌, ◌^◌, List, None, length}
use Rattle.net_model.specs.Nets.{memory_width}
use Rattle.net_model.specs.ModeRules.{KeepsModes, Moded}
use Rattle.isa_extract.specs.Taken.{IsTakenModes}
use Rattle.src_model.specs.declared.typed.Typed.{Typed}
use Rattle.src_model.specs.Rules.{first_fault}
use Rattle.src_model.specs.Written.{model_of_program}
use Rattle.src_front.specs.Fronts.{AreNamed, IsSrcFile}
use Rattle.right_code.specs.Tasks.{read_task}
use Rattle.compile_command.specs.Code.{IsRightFor}
use Rattle.compile_command.specs.Tasks.{compiled_edition}
use Rattle.compile_command.specs.declared.compiler.Compiled.{Compiled}

-- the netlist is that of the first bytes, which keeps all rules, and the program that of the second
-- for its words
pub record IsRead (net src : List ℕ) (modes : Moded) (typed : Typed) : Type 0 where
  pub net_file : IsTakenModes compiled_edition net modes
  pub src_file : IsSrcFile src typed.width (model_of_program typed.program)
  pub width : typed.width ≡ memory_width modes.netlist.storages

-- the netlist keeps its rules in each mode, and the program, which a text names the variables of,
-- those of programs for its words
pub record AreChecked (modes : Moded) (typed : Typed) : Type 0 where
  pub rules : KeepsModes modes.netlist
  pub width : typed.width ≡ memory_width modes.netlist.storages
  pub program : first_fault typed.width (model_of_program typed.program) ≡ None
  pub few : length typed.program.vars < 2 ^ 32
  pub named : AreNamed typed.program.vars

-- they were read so, and the image is right code for them
pub record IsCompiledTo (net src : List ℕ) (compiled : Compiled) : Type 0 where
  pub read : IsRead net src compiled.modes compiled.typed
  pub image : IsRightFor compiled.image (read_task compiled.modes compiled.typed)
