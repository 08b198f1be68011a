-- The nets that each net names, as a list of lists.
use Rattle.std.specs.Prelude.{ℕ, ◌<◌, List, [], length, slice_index_or}
use Rattle.std.specs.List.{AllByRecursion}

-- the nets that a net names
abbrev pub named_in : List (List ℕ) → ℕ → List ℕ
named_in graph n = slice_index_or graph n []

-- each number names a net
abbrev pub InRange : List (List ℕ) → Type 0
InRange graph = (n : ℕ) → AllByRecursion (λ m. m < length graph) (named_in graph n)
