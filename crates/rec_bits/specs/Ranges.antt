-- Ranges of whole numbers, and the range of all sums, differences and products.
use Rattle.std.specs.Prelude.{ℕ, ◌^◌, ◌&&◌, Bool, if◌then◌else◌, ℤ, pos, ◌+ℤ◌, ◌-ℤ◌, ◌*ℤ◌, ◌≤ℤ◌, int_le, Option, Some, None}
use Rattle.rec_bits.specs.declared.ranges.Range.{Range}

-- an end may lie from -2^64 to 2^64
abbrev pub IsEnd : ℤ → Type 0
IsEnd end = ((pos 0 -ℤ pos (2 ^ 64)) ≤ℤ end) × (end ≤ℤ pos (2 ^ 64))

pub record HasEnds (range : Range) : Type 0 where
  pub low : IsEnd range.lo
  pub high : IsEnd range.hi

abbrev pub is_range_end : ℤ → Bool
is_range_end end = int_le (pos 0 -ℤ pos (2 ^ 64)) end && int_le end (pos (2 ^ 64))

-- the range of these ends, where both lie within the bounds
abbrev pub range_of : ℤ → ℤ → Option Range
range_of lo hi = if is_range_end lo && is_range_end hi then Some (record { lo = lo; hi = hi }) else None

-- the range of all sums
abbrev pub sums_of : Range → Range → Option Range
sums_of a b = range_of (a.lo +ℤ b.lo) (a.hi +ℤ b.hi)

-- the range of all differences
abbrev pub differences_of : Range → Range → Option Range
differences_of a b = range_of (a.lo -ℤ b.hi) (a.hi -ℤ b.lo)

-- the range of all products with a number that isn't negative
abbrev pub products_of : Range → ℕ → Option Range
products_of a literal = range_of (a.lo *ℤ pos literal) (a.hi *ℤ pos literal)
