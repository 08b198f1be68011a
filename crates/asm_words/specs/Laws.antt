-- What follows of the line of a word, as statements.
use Rattle.std.specs.Prelude.{◌≡◌, ℕ, List, Contains}
use Rattle.net_model.specs.declared.hardware.Netlist.{Netlist}
use Rattle.net_model.specs.declared.states.State.{State}
use Rattle.net_model.specs.CheckedRules.{KeepsRules}
use Rattle.net_model.specs.Clock.{clock, word_at}
use Rattle.net_model.specs.Patterns.{IsPattern, Pattern}
use Rattle.net_model.specs.Widths.{IsState}
use Rattle.asm_text.specs.declared.line.Line.{Line}
use Rattle.asm_words.specs.Asked.{IsWordOfLine}
use Rattle.asm_words.specs.Shown.{IsLineOf}

-- the list has every pattern of the netlist
abbrev pub HasAll : Netlist → List Pattern → Type 0
HasAll netlist patterns = (pattern : Pattern) → IsPattern netlist pattern → Contains patterns pattern

-- a word is one of the words of its line
abbrev pub WordsLie : Type 0
WordsLie =
    (netlist : Netlist) (patterns : List Pattern) (word : ℕ) (line : Line) → HasAll netlist patterns →
    IsLineOf netlist patterns word line → IsWordOfLine netlist patterns line word

-- each word of a word's line has the clock of that word, in every state
abbrev pub WordsClockAlike : Type 0
WordsClockAlike =
    (netlist : Netlist) (order : List ℕ) (patterns : List Pattern) (word other : ℕ) (line : Line) →
    KeepsRules netlist order → HasAll netlist patterns →
    IsLineOf netlist patterns word line → IsWordOfLine netlist patterns line other →
    (code codes : List ℕ) (s : State) → IsState netlist s →
    word_at netlist code s ≡ word → word_at netlist codes s ≡ other →
    clock netlist codes s ≡ clock netlist code s
