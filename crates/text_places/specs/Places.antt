-- Places of a text: lines and columns, both counted from 1, and the line that a place stands in.
-- Lines end at LF, which is 10; columns are bytes. An offset past the end counts as the end.
use Rattle.std.specs.Prelude.{ℕ, ◌+◌, ◌-◌, ◌==◌, Bool, not, List, ◌++◌, length, take, drop, count_by, take_while}
use Rattle.std.specs.List.{suffix_len}

abbrev pub is_inner : ℕ → Bool
is_inner byte = not (byte == 10)

-- the number of the line that an offset stands in: one more than the LFs before it
abbrev pub line_at : List ℕ → ℕ → ℕ
line_at text at = 1 + count_by (λ byte. byte == 10) (take at text)

-- the column: one more than the bytes since the last LF
abbrev pub column_at : List ℕ → ℕ → ℕ
column_at text at = 1 + suffix_len is_inner (take at text)

-- the last bytes without an LF
abbrev pub last_line : List ℕ → List ℕ
last_line bytes = drop (length bytes - suffix_len is_inner bytes) bytes

-- the line that an offset stands in, without its LF: the bytes since the last LF before it, and
-- those up to the next
abbrev pub line_around : List ℕ → ℕ → List ℕ
line_around text at = last_line (take at text) ++ take_while is_inner (drop at text)
