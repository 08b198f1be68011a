-- The text of a netlist's patterns, each with the least word that does it.
use Rattle.std.specs.Prelude.{◌≡◌, ℕ, ◌+◌, ◌^◌, ◌<◌, ◌≤◌, true, List, [], ◌∷◌, ◌++◌, codes, length}
use Rattle.std.specs.Fmt.{decimal}
use Rattle.std.specs.List.{concat, zip}
use Rattle.bit_bdd.specs.Diagrams.{Diagrams, has_word}
use Rattle.text_lines.specs.Digits.{bytes_of, hex_of}
use Rattle.net_model.specs.declared.hardware.Netlist.{Netlist}
use Rattle.net_model.specs.Patterns.{IsWordOf, Pattern}
use Rattle.net_model.specs.Texts.{text_of_transfer}
use Rattle.net_model.specs.Nets.{word_width}

-- ---- the lines

-- NUMBER TRANSFER ; HEX, where a word has so many bytes
abbrev pub line_text : ℕ → List ℕ → ℕ → ℕ → List ℕ
line_text number transfer bytes word =
    concat (decimal number ∷ codes " " ∷ transfer ∷ codes " ; " ∷ hex_of bytes word ∷ codes "\n" ∷ [])

-- the line of a pattern with its number and a word
abbrev pub pattern_line : Netlist → ℕ → Pattern → ℕ → List ℕ
pattern_line netlist number pattern word =
    line_text number (text_of_transfer netlist pattern.storage pattern.move) (bytes_of (word_width netlist)) word

-- the lines of patterns with their words, numbered from a number on
abbrev pub pattern_lines : Netlist → ℕ → List (Pattern × ℕ) → List ℕ
pattern_lines netlist number [] = []
pattern_lines netlist number (row ∷ rows) =
    pattern_line netlist number row.0 row.1 ++ pattern_lines netlist (number + 1) rows

-- patterns COUNT, the lines, and done
abbrev pub text_of : ℕ → List ℕ → List ℕ
text_of count lines = concat (codes "patterns " ∷ decimal count ∷ codes "\n" ∷ lines ∷ codes "done\n" ∷ [])

abbrev pub patterns_text : Netlist → List (Pattern × ℕ) → List ℕ
patterns_text netlist rows = text_of (length rows) (pattern_lines netlist 0 rows)

-- ---- the words

-- the least of the words that give a pattern's storage its transfer
pub record IsLeastWord (netlist : Netlist) (pattern : Pattern) (word : ℕ) : Type 0 where
  pub given : IsWordOf netlist pattern word
  pub least : (other : ℕ) → IsWordOf netlist pattern other → word ≤ other

-- one for each of several patterns
abbrev pub ArePatternWords : Netlist → List Pattern → List ℕ → Type 0
ArePatternWords netlist [] [] = Unit {0}
ArePatternWords netlist [] (word ∷ words) = ⊥
ArePatternWords netlist (pattern ∷ patterns) [] = ⊥
ArePatternWords netlist (pattern ∷ patterns) (word ∷ words) =
    IsLeastWord netlist pattern word × ArePatternWords netlist patterns words

-- the text of these patterns, numbered from 0, each with its least word
pub record IsPatternsText (netlist : Netlist) (patterns : List Pattern) (text : List ℕ) : Type 0 where
  pub words : List ℕ
  pub least : ArePatternWords netlist patterns words
  pub is : text ≡ patterns_text netlist (zip patterns words)

-- ---- while the text is made

-- the line of a pattern with its number
pub record IsLine (netlist : Netlist) (number : ℕ) (pattern : Pattern) (line : List ℕ) : Type 0 where
  pub word : ℕ
  pub least : IsLeastWord netlist pattern word
  pub is : line ≡ pattern_line netlist number pattern word

-- the lines of patterns, numbered from a number on
pub record AreLines (netlist : Netlist) (number : ℕ) (patterns : List Pattern) (lines : List ℕ) : Type 0 where
  pub words : List ℕ
  pub least : ArePatternWords netlist patterns words
  pub is : lines ≡ pattern_lines netlist number (zip patterns words)

-- the least word of a set
pub record IsLeastOf (book : Diagrams) (set word : ℕ) : Type 0 where
  pub fits : word < 2 ^ book.bits
  pub holds : has_word book set word ≡ true
  pub least : (other : ℕ) → has_word book set other ≡ true → word ≤ other
