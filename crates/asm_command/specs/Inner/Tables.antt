-- What the functions tell one another of patterns that were extracted, of lines and of words.
use Rattle.std.specs.Prelude.{◌≡◌, ℕ, ◌++◌, ◌∷◌, List, All, length, map, MatchOption, Option}
use Rattle.std.specs.List.{AllZip}
use Rattle.net_model.specs.declared.hardware.Netlist.{Netlist}
use Rattle.isa_extract.specs.declared.netlists.Isa.{Isa}
use Rattle.code_model.specs.declared.image.Image.{Image}
use Rattle.code_model.specs.ImageFits.{limits_of}
use Rattle.viewed_text.specs.Texts.{IsImageRead, IsRemarkedFault}
use Rattle.code_model.specs.ImageText.{image_text}
use Rattle.code_model.specs.Places.{words_of}
use Rattle.transfer_set.specs.Rows.{row_patterns}
use Rattle.transfer_set.specs.declared.row.Row.{Row}
use Rattle.asm_text.specs.declared.line.Line.{Line}
use Rattle.asm_text.specs.Texts.{IsAsmFault, IsAsmText, lines_text}
use Rattle.asm_command.specs.Assembled.{HasLeastWord, HasWord, IsWorded, SaysText, bare_image}
use Rattle.asm_command.specs.Disassembled.{ShowsWord}
use Rattle.asm_command.specs.Machines.{Machine, texts_of}
use Rattle.asm_command.specs.declared.fault.AsmFault.{AsmFault}
use Rattle.asm_command.specs.declared.fault.AsmFault.TheVariants as fault
use Rattle.asm_command.specs.declared.fault.DisFault.{DisFault}
use Rattle.asm_command.specs.declared.fault.DisFault.TheVariants as dis

-- ---- patterns

-- the texts of transfers, as they are kept
abbrev pub row_texts : List Row → List (List ℕ)
row_texts rows = map (λ (row : Row). row.text.items) rows

-- the netlist with the patterns that were extracted
abbrev pub machine_of : Netlist → Isa → Machine
machine_of netlist extracted =
    record { netlist = netlist; patterns = row_patterns extracted.pool extracted.patterns.rows }

-- the patterns are the same, while sets may have come to the book
pub record KeepsPatterns (old new : Isa) : Type 0 where
  pub pool : new.pool ≡ old.pool
  pub patterns : new.patterns ≡ old.patterns

-- ---- lines

-- the text says the lines, where the patterns have these texts
abbrev pub SaysLines : List (List ℕ) → Netlist → List ℕ → List Line → Type 0
SaysLines texts netlist text lines = IsAsmText texts (limits_of netlist).bits (limits_of netlist).words text lines

-- why the text isn't read; nothing is said where memory ran out
abbrev pub IsTextFault : List (List ℕ) → Netlist → List ℕ → AsmFault → Type 0
IsTextFault texts netlist text (fault.Text at) =
    IsAsmFault texts (limits_of netlist).bits (limits_of netlist).words text at
IsTextFault texts netlist text fault.Memory = Unit {0}
IsTextFault texts netlist text _ = ⊥

-- ---- words

-- the line's least word, or none where it has no word
abbrev pub IsLeastOf : Machine → Line → Option ℕ → Type 0
IsLeastOf machine line found =
    MatchOption found ((word : ℕ) → HasWord machine line word → ⊥) (HasLeastWord machine line)

-- the first line without a word has this number
pub record LacksWord (machine : Machine) (lines : List Line) (number : ℕ) : Type 0 where
  pub before : List Line
  pub line : Line
  pub after : List Line
  pub parts : lines ≡ before ++ (line ∷ after)
  pub place : length before ≡ number
  pub worded : All (IsWorded machine) before
  pub none : (word : ℕ) → HasWord machine line word → ⊥

-- why there are no words of the lines
abbrev pub IsWordFault : Machine → List Line → AsmFault → Type 0
IsWordFault machine lines (fault.Word number) = LacksWord machine lines number
IsWordFault machine lines fault.Memory = Unit {0}
IsWordFault machine lines _ = ⊥

-- ---- texts

-- the least words of the lines that a text says
pub record AreLeastWords (machine : Machine) (text words : List ℕ) : Type 0 where
  pub lines : List Line
  pub says : SaysText machine text lines
  pub least : AllZip (HasLeastWord machine) lines words

-- the text says lines, and the first without a word has this number
pub record SaysWordless (machine : Machine) (text : List ℕ) (number : ℕ) : Type 0 where
  pub lines : List Line
  pub says : SaysText machine text lines
  pub lacks : LacksWord machine lines number

-- why there are no words of a text
abbrev pub IsSourceFault : Machine → List ℕ → AsmFault → Type 0
IsSourceFault machine text (fault.Word number) = SaysWordless machine text number
IsSourceFault machine text refusal = IsTextFault (texts_of machine) machine.netlist text refusal

-- the bytes are the text of the image of those words
pub record IsOutOf (machine : Machine) (text out : List ℕ) : Type 0 where
  pub words : List ℕ
  pub least : AreLeastWords machine text words
  pub written : out ≡ image_text (bare_image (limits_of machine.netlist).bits words)

-- ---- images

-- why the image's bytes were not taken; nothing is said where memory ran out
abbrev pub IsImageFault : Netlist → List ℕ → DisFault → Type 0
IsImageFault netlist image (dis.ImageText at) = IsRemarkedFault netlist image at
IsImageFault netlist image dis.Memory = Unit {0}
IsImageFault netlist image _ = ⊥

-- the text is that of the lines of the image's words
pub record IsShownOf (machine : Machine) (image : Image) (text : List ℕ) : Type 0 where
  pub lines : List Line
  pub shown : AllZip (ShowsWord machine) (words_of image) lines
  pub written : text ≡ lines_text (texts_of machine) (limits_of machine.netlist).bits lines

-- and the image is that of the bytes
pub record IsShownIn (machine : Machine) (bytes text : List ℕ) : Type 0 where
  pub image : Image
  pub read : IsImageRead machine.netlist bytes image
  pub shown : IsShownOf machine image text
