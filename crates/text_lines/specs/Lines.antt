-- The lines of a text. The lines of a text, each with its LF; what follows the last LF, if
-- anything does, is a line too.
use Rattle.std.specs.Prelude.{ℕ, ◌==◌, ◌≡◌, ◌<◌, if◌then◌else◌, List, [], ◌∷◌, ◌++◌, length}

-- a byte before the first line
abbrev pub longer_line : ℕ → List (List ℕ) → List (List ℕ)
longer_line b [] = (b ∷ []) ∷ []
longer_line b (line ∷ lines) = (b ∷ line) ∷ lines

-- the lines of a text, each with its LF; what follows the last LF, if anything does, is a line too
unfoldable pub lines_of : List ℕ → List (List ℕ)
lines_of [] = []
lines_of (b ∷ bs) = if b == 10 then (10 ∷ []) ∷ lines_of bs else longer_line b (lines_of bs)

-- a text is its first line and what follows that
pub record IsFirstLine (text line rest : List ℕ) : Type 0 where
  pub lines : lines_of text ≡ line ∷ lines_of rest
  pub parts : text ≡ line ++ rest
  pub shorter : length rest < length text
