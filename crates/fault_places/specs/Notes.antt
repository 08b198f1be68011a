-- What is told of a place, and where a status has one.
use Rattle.std.specs.Prelude.{ℕ, ◌+◌, ◌==◌, if◌then◌else◌, List, [], ◌∷◌, ◌++◌, codes, map, take}
use Rattle.std.specs.Fmt.{decimal}
use Rattle.std.specs.List.{concat}
use Rattle.text_places.specs.Places.{column_at, last_line, line_around, line_at}

-- a tab for a tab and a space for any other byte, so that what follows stands below
abbrev pub blank_for : ℕ → ℕ
blank_for byte = if byte == 9 then 9 else 32

-- the caret below the byte at an offset
abbrev pub caret_line : List ℕ → ℕ → List ℕ
caret_line text at = map blank_for (last_line (take at text)) ++ codes "^\n"

-- `NAME:LINE:COLUMN: REASON`, the line itself, and the caret
abbrev pub note_text : List ℕ → List ℕ → ℕ → List ℕ → List ℕ
note_text name text at reason =
    concat (name ∷ codes ":" ∷ decimal (line_at text at) ∷ codes ":" ∷ decimal (column_at text at) ∷ codes ": "
    ∷ reason ∷ codes "\n" ∷ line_around text at ∷ codes "\n" ∷ caret_line text at ∷ [])
