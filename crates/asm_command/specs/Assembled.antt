-- What is assembled of two texts, and why nothing is. The text of the image of the least words of
-- a text's lines; a text that is none for the netlist; the first line without a word.
use Rattle.std.specs.Prelude.{◌≡◌, ℕ, List, [], ◌∷◌, ◌++◌, All, length, map}
use Rattle.std.specs.List.{AllZip}
use Rattle.net_parser.specs.Texts.{IsNoNetText}
use Rattle.isa_extract.specs.Taken.{BreaksAnyTaken}
use Rattle.code_model.specs.declared.image.Image.{Image}
use Rattle.code_model.specs.declared.image.Word.{Word}
use Rattle.code_model.specs.ImageFits.{limits_of}
use Rattle.code_model.specs.ImageLines.{IsImageText}
use Rattle.word_fit.specs.Fits.{IsLeastFit}
use Rattle.asm_text.specs.declared.line.Line.{Line}
use Rattle.asm_text.specs.Texts.{IsAsmFault, IsAsmText}
use Rattle.asm_words.specs.Asked.{IsWordOfLine}
use Rattle.asm_command.specs.Machines.{IsMachine, Machine, assembled_edition, texts_of}
use Rattle.asm_command.specs.declared.fault.AsmFault.{AsmFault}
use Rattle.asm_command.specs.declared.fault.AsmFault.TheVariants as fault

-- ---- lines and their words

-- the text says these lines, of which there are no more than the code has words
abbrev pub SaysText : Machine → List ℕ → List Line → Type 0
SaysText machine text lines =
    IsAsmText (texts_of machine) (limits_of machine.netlist).bits (limits_of machine.netlist).words text lines

-- the word is one of the line's
abbrev pub HasWord : Machine → Line → ℕ → Type 0
HasWord machine line word = IsWordOfLine machine.netlist machine.patterns line word

-- the word is the least of the line's
abbrev pub HasLeastWord : Machine → Line → ℕ → Type 0
HasLeastWord machine line word = IsLeastFit (HasWord machine line) word

-- the line has a word
pub record IsWorded (machine : Machine) (line : Line) : Type 0 where
  pub word : ℕ
  pub does : HasWord machine line word

-- ---- the image

-- words of which no patterns are wanted
abbrev pub bare_word : ℕ → Word
bare_word word = record { word = word; patterns = [] }

-- an image of words of so many bits, without cells, places, costs and marks
abbrev pub bare_image : ℕ → List ℕ → Image
bare_image bits words =
    record { bits = bits; temps = 0; places = []; costs = []; marks = []; words = map bare_word words }

-- these bytes are the text of the image of the least words, one for each line of the second text
pub record IsAssembled (net text out : List ℕ) : Type 0 where
  pub machine : Machine
  pub is : IsMachine net machine
  pub lines : List Line
  pub says : SaysText machine text lines
  pub words : List ℕ
  pub least : AllZip (HasLeastWord machine) lines words
  pub written : IsImageText (limits_of machine.netlist) out (bare_image (limits_of machine.netlist).bits words)

-- ---- refusals

-- the first bytes are a machine's, and the second no assembler text for it, which shows at this
-- offset
pub record IsNoAsmFile (net text : List ℕ) (at : ℕ) : Type 0 where
  pub machine : Machine
  pub is : IsMachine net machine
  pub none : IsAsmFault (texts_of machine) (limits_of machine.netlist).bits (limits_of machine.netlist).words text at

-- the second bytes are an assembler text for it, and the line of this number, from 0, is the first
-- that has no word
pub record IsWordless (net text : List ℕ) (number : ℕ) : Type 0 where
  pub machine : Machine
  pub is : IsMachine net machine
  pub before : List Line
  pub line : Line
  pub after : List Line
  pub says : SaysText machine text (before ++ (line ∷ after))
  pub place : length before ≡ number
  pub worded : All (IsWorded machine) before
  pub none : (word : ℕ) → HasWord machine line word → ⊥

-- when each refusal comes; nothing is said where memory ran out
abbrev pub IsAssembleFault : List ℕ → List ℕ → AsmFault → Type 0
IsAssembleFault net text (fault.NetText at) = IsNoNetText net at
IsAssembleFault net text (fault.Net broken) = BreaksAnyTaken assembled_edition net broken
IsAssembleFault net text (fault.Text at) = IsNoAsmFile net text at
IsAssembleFault net text (fault.Word number) = IsWordless net text number
IsAssembleFault net text fault.Memory = Unit {0}
