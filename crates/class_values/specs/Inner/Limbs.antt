-- Classes of what single cells hold.
use Rattle.std.specs.Prelude.{ℕ, List, slice_index}
use Rattle.tree_laws.specs.declared.classes.Classes.{Classes}
use Rattle.class_values.specs.Values.{HoldsWide}

-- the class has what the store holds in a cell of this width
abbrev pub IsLimb : Classes → ℕ → ℕ → ℕ → Type 0
IsLimb table cell address c = (memory : List ℕ) → HoldsWide table memory c cell (slice_index memory address)

-- so it has, with zeros above up to another width
abbrev pub IsLimbIn : Classes → ℕ → ℕ → ℕ → Type 0
IsLimbIn table address width c = (memory : List ℕ) → HoldsWide table memory c width (slice_index memory address)
