-- Cases whose numbers are counted.
use Rattle.std.specs.Prelude.{ℕ, ◌==◌, ◌^◌, Option, Some, None, Bool, false}

abbrev pub is_all : Option ℕ → ℕ → Bool
is_all None count = false
is_all (Some selector) count = count == 2 ^ selector
