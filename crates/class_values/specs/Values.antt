-- Values of classes. In one memory, the store over which a table's trees stand, a class of trees has a
-- value: the same whatever values the table's classes can have there.
use Rattle.std.specs.Prelude.{ℕ, ◌≡◌, ◌<◌, List, [], ◌∷◌, slice_index}
use Rattle.tree_laws.specs.declared.classes.Classes.{Classes}
use Rattle.tree_laws.specs.Classes.{TableMeans, class_count, width_in}
use Rattle.class_values.specs.declared.facts.Fact.{Fact}

-- in this memory the class has this value
pub record Holds (table : Classes) (memory : List ℕ) (c n : ℕ) : Type 0 where
  pub below : c < class_count table
  pub value : (regs : List ℕ) → TableMeans table memory regs → slice_index regs c ≡ n

-- and the class has this width
pub record HoldsWide (table : Classes) (memory : List ℕ) (c w n : ℕ) : Type 0 where
  pub holds : Holds table memory c n
  pub width : width_in table c ≡ w

-- two classes that have one value in every memory
pub record AreSame (table : Classes) (a b : ℕ) : Type 0 where
  pub first : a < class_count table
  pub second : b < class_count table
  pub value : (memory regs : List ℕ) → TableMeans table memory regs → slice_index regs a ≡ slice_index regs b

-- the facts hold in this memory
abbrev pub AreFacts : Classes → List ℕ → List Fact → Type 0
AreFacts table memory [] = Unit {0}
AreFacts table memory (fact ∷ facts) = Holds table memory fact.class fact.number × AreFacts table memory facts

-- the class has this number as its value where the facts hold
abbrev pub HasNumber : Classes → List Fact → ℕ → ℕ → Type 0
HasNumber table facts c n = (memory : List ℕ) → AreFacts table memory facts → Holds table memory c n

-- in every memory the class has this width and this number
abbrev pub IsNumber : Classes → ℕ → ℕ → ℕ → Type 0
IsNumber table w n c = (memory : List ℕ) → HoldsWide table memory c w n
