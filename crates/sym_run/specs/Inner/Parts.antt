-- Classes of values of two parts.
use Rattle.std.specs.Prelude.{ℕ, ◌+◌, List}
use Rattle.rec_bits.specs.Operators.{cat_of}
use Rattle.tree_laws.specs.declared.classes.Classes.{Classes}
use Rattle.tree_laws.specs.Classes.{cell_bits, width_in}
use Rattle.tree_laws.specs.Equal.{CellsFit}
use Rattle.class_values.specs.declared.facts.Fact.{Fact}
use Rattle.class_values.specs.Values.{AreFacts, Holds, HoldsWide}

-- the class has one value above the bits of another
abbrev pub IsJoined : Classes → Classes → List Fact → ℕ → ℕ → ℕ → Type 0
IsJoined old new facts high low c =
    (memory : List ℕ) (x y : ℕ) → CellsFit (cell_bits old) memory → AreFacts old memory facts →
    Holds old memory high x → Holds old memory low y →
    HoldsWide new memory c (width_in old high + width_in old low) (cat_of x y (width_in old low))
