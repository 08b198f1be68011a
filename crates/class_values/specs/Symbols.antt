-- Classes of values that the store of a mark has in two cells.
use Rattle.std.specs.Prelude.{ℕ, ◌+◌, ◌/◌, ◌%◌, ◌^◌, ◌<◌, ◌≡◌, List, slice_index}
use Rattle.tree_laws.specs.declared.classes.Classes.{Classes}
use Rattle.class_values.specs.Values.{HoldsWide}

-- the low bits of a value stand in a cell, and the bits above them in the next one
pub record IsStored (cell : ℕ) (memory : List ℕ) (address x : ℕ) : Type 0 where
  pub low : slice_index memory address ≡ x % 2 ^ cell
  pub high : slice_index memory (address + 1) ≡ (x / 2 ^ cell) % 2 ^ cell

-- wherever a value of this width stands there, the class has it
abbrev pub IsSymbol : Classes → ℕ → ℕ → ℕ → ℕ → Type 0
IsSymbol table cell address width c =
    (memory : List ℕ) (x : ℕ) → x < 2 ^ width → IsStored cell memory address x → HoldsWide table memory c width x
