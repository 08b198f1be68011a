-- Texts of numbers, one after the other.
use Rattle.std.specs.Prelude.{ℕ, zero, suc, List, [], ◌++◌}

-- those of so many numbers, from 0 on
abbrev pub each : (ℕ → List ℕ) → ℕ → List ℕ
each text zero = []
each text (suc n) = each text n ++ text n
