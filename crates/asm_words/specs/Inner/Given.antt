-- What a word gives, by a table of patterns, and the slices in that, as they are found.
use Rattle.std.specs.Prelude.{ℕ, ◌+◌, ◌<◌, ◌≤◌, if◌then◌else◌, Bool, false, List, [], ◌∷◌, ◌++◌, Option, Some, None}
use Rattle.std.specs.List.{list_any}
use Rattle.bit_bdd.specs.Diagrams.{Diagrams, has_word}
use Rattle.sym_expr.specs.declared.pool.Node.{Node}
use Rattle.transfer_set.specs.Entries.{ids_transfer}
use Rattle.transfer_set.specs.declared.row.Row.{Row}
use Rattle.asm_words.specs.Slices.{transfer_slices, same_slice}
use Rattle.asm_words.specs.declared.slices.Slice.{Slice}

-- the row's set holds the word
abbrev pub row_holds : Diagrams → ℕ → Option Row → Bool
row_holds book word None = false
row_holds book word (Some row) = has_word book row.set word

-- the numbers, from one on, of the rows whose sets hold the word
abbrev pub numbers_in : Diagrams → List Row → ℕ → ℕ → List ℕ
numbers_in book [] number word = []
numbers_in book (row ∷ rows) number word =
    (if has_word book row.set word then number ∷ [] else []) ++ numbers_in book rows (number + 1) word

-- the slices in a row's transfer
abbrev pub row_slices : List Node → Option Row → List Slice
row_slices pool None = []
row_slices pool (Some row) = transfer_slices (ids_transfer pool row.addr row.value)

-- a slice behind others, unless it stands there
abbrev pub has_slice : List Slice → Slice → Bool
has_slice found s = list_any (λ x. same_slice x s) found

abbrev pub with_slice : List Slice → Slice → List Slice
with_slice found s = if has_slice found s then found else found ++ s ∷ []

abbrev pub with_slices : List Slice → List Slice → List Slice
with_slices found [] = found
with_slices found (s ∷ ss) = with_slices (with_slice found s) ss

-- the bits are those of a word, the highest first
pub record SliceFits (s : Slice) : Type 0 where
  pub order : s.lo ≤ s.hi
  pub within : s.hi < 64
