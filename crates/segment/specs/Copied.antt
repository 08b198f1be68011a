-- Classes of one table that have the values of another table's classes, and classes that have one value.
use Rattle.std.specs.Prelude.{ℕ, ◌≡◌, List, slice_index}
use Rattle.net_model.specs.Meaning.{mean}
use Rattle.sym_expr.specs.declared.pool.Node.{Node}
use Rattle.tree_laws.specs.declared.classes.Classes.{Classes}
use Rattle.tree_laws.specs.Classes.{TableMeans, expr_in, width_in}
use Rattle.tree_laws.specs.Meanings.{state_of}
use Rattle.class_values.specs.declared.facts.Fact.{Fact}
use Rattle.class_values.specs.Values.{AreFacts, Holds, HoldsWide}

-- wherever the facts hold, the class c of the other table has the width and the value of the class a
abbrev pub IsCopy : Classes → List Fact → Classes → ℕ → ℕ → Type 0
IsCopy table facts to a c =
    (memory regs : List ℕ) → AreFacts table memory facts → TableMeans table memory regs →
    HoldsWide to memory c (width_in table a) (slice_index regs a)

-- so it has the value of a node
abbrev pub IsCopyOf : Classes → List Fact → Classes → Node → ℕ → Type 0
IsCopyOf table facts to node c =
    (memory regs : List ℕ) → AreFacts table memory facts → TableMeans table memory regs →
    Holds to memory c (mean (expr_in table node) (state_of memory regs) 0)

-- wherever the facts hold, both classes have one value
abbrev pub AreAlike : Classes → List Fact → ℕ → ℕ → Type 0
AreAlike table facts a b =
    (memory regs : List ℕ) → AreFacts table memory facts → TableMeans table memory regs →
    slice_index regs a ≡ slice_index regs b
