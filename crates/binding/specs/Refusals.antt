-- When a program has no place in a memory.
use Rattle.std.specs.Prelude.{ℕ, ◌≡◌, ◌<◌}
use Rattle.binding.specs.declared.fault.BindFault.{BindFault}
use Rattle.binding.specs.declared.fault.BindFault.TheVariants.{DataFull, Memory}

-- it needs more cells than there are, and both numbers are told; or memory is wanting
abbrev pub IsBindFault : ℕ → ℕ → BindFault → Type 0
IsBindFault need words (DataFull n h) = (n ≡ need) × (h ≡ words) × (words < need)
IsBindFault need words Memory = Unit {0}
