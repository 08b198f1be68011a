-- The lines of a text that are told, one after the other.
use Rattle.std.proofs.Common.{◌≡◌, ℕ, List, [], ◌++◌, refl, sym, ap, ◌∙◌}
use Rattle.std.specs.List.{flat_map}
use Rattle.std.proofs.lemmas.List.{append-nil, append_assoc}
use Rattle.text_lines.specs.Lines.{IsFirstLine, lines_of}
use Rattle.check_command.specs.Reports.{told_line, told_lines}

-- with the lines of the rest, all is told
abbrev pub Telling : (text before rest out : List ℕ) → Type 0
Telling text before rest out = (out ++ told_lines rest) ≡ (before ++ told_lines text)

pub telling_more : (text before rest out line more : List ℕ) → Telling text before rest out → IsFirstLine rest line more → Telling text before more (out ++ told_line line)
telling_more text before rest out line more told first =
    append_assoc out (told_line line) (told_lines more) ∙ (ap (λ (lines : List (List ℕ)). out ++ flat_map told_line lines) (sym first.lines) ∙ told)

no_lines : lines_of [] ≡ []
unfolding lines_of
no_lines = refl

pub telling_all : (text before rest out : List ℕ) → Telling text before rest out → rest ≡ [] → out ≡ (before ++ told_lines text)
telling_all text before rest out told none =
    sym (append-nil out) ∙ (ap (λ (lines : List (List ℕ)). out ++ flat_map told_line lines) (sym (ap lines_of none ∙ no_lines)) ∙ told)
