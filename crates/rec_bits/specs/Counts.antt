-- Counts.
use Rattle.std.specs.Prelude.{ℕ, ◌-◌, ◌^◌, min}

-- a count as a number of 64 bits: one that doesn't fit stands at the greatest
abbrev pub capped : ℕ → ℕ
capped n = min n (2 ^ 64 - 1)
