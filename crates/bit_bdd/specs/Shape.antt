-- How a book keeps its nodes, so that equal sets have equal ids.
use Rattle.std.specs.Prelude.{◌≡◌, ◌≢◌, ◌↔◌, ℕ, ◌+◌, ◌<◌, ◌≤◌, max, true, ◌||◌, if◌then◌else◌, List, length, slice_get, Option, None, Some}
use Rattle.std.specs.Int.{bit_at}
use Rattle.bit_bdd.specs.declared.Node.{Node}
use Rattle.bit_bdd.specs.declared.Node.TheVariants.{Never, Always, Ask}
use Rattle.bit_bdd.specs.Diagrams.{Point, PointSet, Diagrams, bits_of, branch, set_of}

-- a level: 0 for the constants, and one more than the bit that a node asks
abbrev pub level_of : Node → ℕ
level_of Never = 0
level_of Always = 0
level_of (Ask bit low high) = bit + 1

abbrev pub level_at : Option Node → ℕ
level_at None = 0
level_at (Some node) = level_of node

unfoldable pub level : List Node → ℕ → ℕ
level nodes id = level_at (slice_get nodes id)

-- the highest of three levels
abbrev pub top_level : List Node → ℕ → ℕ → ℕ → ℕ
top_level nodes a b c = max (max (level nodes a) (level nodes b)) (level nodes c)

-- an id of the book whose node asks only bits below this one
pub record AsksBelow (book : Diagrams) (id bit : ℕ) : Type 0 where
  pub within : id < length book.nodes
  pub lower : level book.nodes id ≤ bit

-- a node that asks, at its place: its children come before it and ask lower bits, and they are not
-- equal
pub record IsReduced (bits : ℕ) (nodes : List Node) (place bit low high : ℕ) : Type 0 where
  pub bit_within : bit < bits
  pub low_before : low < place
  pub high_before : high < place
  pub low_lower : level nodes low ≤ bit
  pub high_lower : level nodes high ≤ bit
  pub apart : low ≢ high

-- the constants come first, each other node is reduced, and no two are equal
pub record IsReducedBook (bits : ℕ) (nodes : List Node) : Type 0 where
  pub never : slice_get nodes 0 ≡ Some Never
  pub always : slice_get nodes 1 ≡ Some Always
  pub some : 0 < bits
  pub few : bits ≤ 64
  pub reduced : (place bit low high : ℕ) → slice_get nodes place ≡ Some (Ask bit low high) →
      IsReduced bits nodes place bit low high
  pub distinct : (i j : ℕ) (node : Node) → slice_get nodes i ≡ Some node → slice_get nodes j ≡ Some node → i ≡ j

-- what a book keeps of the node at a place
abbrev pub IsNodeAt : Diagrams → ℕ → Node → Type 0
IsNodeAt book place Never = place ≡ 0
IsNodeAt book place Always = place ≡ 1
IsNodeAt book place (Ask bit low high) = IsReduced book.bits book.nodes place bit low high

-- a set does not depend on the bits from this one on
abbrev pub SeesBelow : Diagrams → ℕ → ℕ → Type 0
SeesBelow book id bit =
    (f g : Point) → ((k : ℕ) → k < bit → f k ≡ g k) →
    set_of book.nodes id f ≡ set_of book.nodes id g

-- the children's sets depend only on bits below the node's own
abbrev pub ChildrenSeeBelow : Diagrams → Node → Type 0
ChildrenSeeBelow book Never = Unit {0}
ChildrenSeeBelow book Always = Unit {0}
ChildrenSeeBelow book (Ask bit low high) = SeesBelow book low bit × SeesBelow book high bit

-- the points of `on` that are in `test`, and those of `off` that are not
abbrev pub choice : PointSet → PointSet → PointSet → PointSet
choice test on off point = if test point then on point else off point

-- a point with other values at bits of the mask alone
abbrev pub SameOutside : ℕ → Point → Point → Type 0
SameOutside mask point other = (bit : ℕ) → bit_at mask bit ≡ 0 → other bit ≡ point bit

-- the points that can be brought into the set by changing bits of the mask
abbrev pub IsProjection : ℕ → PointSet → PointSet → Type 0
IsProjection mask set projected =
    (point : Point) →
    (projected point ≡ true) ↔ ((other : Point) × SameOutside mask point other × (set other ≡ true))

-- the points that lie in either set, where the bit is in the mask, and else the branch
abbrev pub projected_branch : ℕ → ℕ → PointSet → PointSet → PointSet
projected_branch mask bit low high point =
    if bits_of mask bit then low point || high point else branch bit low high point
