-- Cells that hold what was given for them.
use Rattle.std.specs.Prelude.{◌≡◌, ◌<◌, ◌^◌, ℕ, List, length, slice_index}

-- each value that is a word is held by its cell, if there is one
abbrev pub AreGiven : ℕ → List ℕ → List ℕ → Type 0
AreGiven width given cells =
    (cell : ℕ) → cell < length cells → slice_index given cell < 2 ^ width →
    slice_index cells cell ≡ slice_index given cell
