-- The finished operations that a book remembers. What a book keeps, in no public clause: children
-- stand before their parents and ask lower bits, no node has two equal children, no two nodes are
-- equal, and each finished operation in the table is right.
use Rattle.std.specs.Prelude.{◌≡◌, ℕ, ◌<◌, ◌≤◌, List, length, All}
use Rattle.bit_bdd.specs.declared.Node.{Node}
use Rattle.bit_bdd.specs.declared.Operation.{Operation}
use Rattle.bit_bdd.specs.declared.Operation.TheVariants.{Choose, Exists}
use Rattle.bit_bdd.specs.declared.Finished.{Finished}
use Rattle.bit_bdd.specs.Diagrams.{set_of}
use Rattle.bit_bdd.specs.Shape.{level, choice, top_level, IsProjection, IsReducedBook}

-- the id has the set of the choice
pub record IsChosen (nodes : List Node) (test on off id : ℕ) : Type 0 where
  pub test_within : test < length nodes
  pub on_within : on < length nodes
  pub off_within : off < length nodes
  pub within : id < length nodes
  pub lower : level nodes id ≤ top_level nodes test on off
  pub set : set_of nodes id ≡ choice (set_of nodes test) (set_of nodes on) (set_of nodes off)

-- the id has the set of the projection
pub record IsProjected (nodes : List Node) (set mask id : ℕ) : Type 0 where
  pub set_within : set < length nodes
  pub within : id < length nodes
  pub lower : level nodes id ≤ level nodes set
  pub is : IsProjection mask (set_of nodes set) (set_of nodes id)

-- the id is the result of the operation
abbrev pub IsResult : List Node → Operation → ℕ → Type 0
IsResult nodes (Choose test on off) id = IsChosen nodes test on off id
IsResult nodes (Exists set mask) id = IsProjected nodes set mask id

-- each remembered result is right
abbrev pub AllRight : List Node → List Finished → Type 0
AllRight nodes done = All (λ f. IsResult nodes f.operation f.id) done

-- what stands where nothing was remembered
abbrev pub unused : Finished
unused = record { operation = Choose 0 0 0; id = 0 }

-- what holds of a book's fields
pub record IsBook (bits : ℕ) (nodes : List Node) (done : List Finished) : Type 0 where
  pub reduced : IsReducedBook bits nodes
  pub right : AllRight nodes done
