-- Counts of faults, by which a caller can tell that an answer has its cause outside.
use Rattle.std.specs.Prelude.{◌≡◌, ℕ, ◌+◌, ◌-◌, ◌^◌, ◌≤◌, min, Result, OnErr}

-- one more, but no further than the end of the type u64, where a count stays
abbrev pub count_after : ℕ → ℕ
count_after count = min (count + 1) (2 ^ 64 - 1)

-- the count rose: it is greater than before, or it stands at the end of its type
abbrev pub Rose : ℕ → ℕ → Type 0
Rose before now = count_after before ≤ now

-- the count did not fall, and an error was answered only where it rose by one
pub record HasCause {T E : Type 0} (before now : ℕ) (result : Result T E) : Type 0 where
  pub later : before ≤ now
  pub failed : OnErr result (now ≡ count_after before)
