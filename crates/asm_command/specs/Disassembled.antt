-- What an image is disassembled to, and why it isn't.
use Rattle.std.specs.Prelude.{◌≡◌, ℕ, List}
use Rattle.std.specs.List.{AllZip}
use Rattle.net_parser.specs.Texts.{IsNoNetText}
use Rattle.isa_extract.specs.Taken.{BreaksAnyTaken}
use Rattle.code_model.specs.declared.image.Image.{Image}
use Rattle.code_model.specs.ImageFits.{limits_of}
use Rattle.viewed_text.specs.Texts.{IsImageRead}
use Rattle.code_model.specs.Places.{words_of}
use Rattle.run_command.specs.Runs.{IsNoImageFile}
use Rattle.asm_text.specs.declared.line.Line.{Line}
use Rattle.asm_text.specs.Texts.{lines_text}
use Rattle.asm_words.specs.Shown.{IsLineOf}
use Rattle.asm_command.specs.Machines.{IsMachine, IsMachineText, Machine, assembled_edition, texts_of}
use Rattle.asm_command.specs.declared.fault.DisFault.{DisFault}
use Rattle.asm_command.specs.declared.fault.DisFault.TheVariants as fault

-- the line is that of the word
abbrev pub ShowsWord : Machine → ℕ → Line → Type 0
ShowsWord machine word line = IsLineOf machine.netlist machine.patterns word line

-- this text is that of the lines of the image's words, one each
pub record IsDisassembled (net image text : List ℕ) : Type 0 where
  pub machine : Machine
  pub is : IsMachine net machine
  pub said : Image
  pub read : IsImageRead machine.netlist image said
  pub lines : List Line
  pub shown : AllZip (ShowsWord machine) (words_of said) lines
  pub written : text ≡ lines_text (texts_of machine) (limits_of machine.netlist).bits lines

-- when each refusal comes; nothing is said where memory ran out
abbrev pub IsDisassembleFault : List ℕ → List ℕ → DisFault → Type 0
IsDisassembleFault net image (fault.NetText at) = IsNoNetText net at
IsDisassembleFault net image (fault.Net broken) = BreaksAnyTaken assembled_edition net broken
IsDisassembleFault net image (fault.ImageText at) = IsMachineText net × IsNoImageFile net image at
IsDisassembleFault net image fault.Memory = Unit {0}
