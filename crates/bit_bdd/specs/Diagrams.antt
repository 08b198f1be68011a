-- What a book says: its number of bits, and its nodes, where a node's place is its id. A point
-- gives each bit of a word a value. A book is its number of bits and the list of its nodes; an id
-- is a place in the list. Ids 0 and 1 are the empty set and the set of all words; any other node
-- is a bit with one id for 0 and one for 1, and a word lies in its set where it lies in that of
-- the id for the bit's value. One book *extends* another where it has the same bits and the
-- other's nodes in their places.
use Rattle.std.specs.Prelude.{◌≡◌, ◌↔◌, ℕ, ◌^◌, bit_or, bit_xor, ◌<◌, ◌≤◌, ◌==◌, Bool, true, false, if◌then◌else◌, List, [], ◌∷◌, ◌++◌, length, reverse}
use Rattle.std.specs.Int.{bit_at}
use Rattle.bit_bdd.specs.declared.Node.{Node}
use Rattle.bit_bdd.specs.declared.Node.TheVariants.{Never, Always, Ask}

-- a value for each bit
abbrev pub Point : Type 0
Point = ℕ → Bool

-- the bits of a word
abbrev pub bits_of : ℕ → Point
bits_of word bit = bit_at word bit == 1

-- a set of points, by the test for its points
abbrev pub PointSet : Type 0
PointSet = Point → Bool

-- the points of `low` where the bit is 0, and those of `high` where it is 1
abbrev pub branch : ℕ → PointSet → PointSet → PointSet
branch bit low high point = if point bit then high point else low point

-- the set of a node, by the sets of the ids that it names
abbrev pub node_set : Node → (ℕ → PointSet) → PointSet
node_set Never sets = λ _. false
node_set Always sets = λ _. true
node_set (Ask bit low high) sets = branch bit (sets low) (sets high)

-- the set of an id, by the nodes from the newest to the oldest: a node names older ids alone
unfoldable pub set_of_newest : List Node → ℕ → PointSet
set_of_newest [] id = λ _. false
set_of_newest (node ∷ older) id =
    if id == length older then node_set node (set_of_newest older) else set_of_newest older id

-- the set of an id
unfoldable pub set_of : List Node → ℕ → PointSet
set_of nodes id = set_of_newest (reverse nodes) id

-- what a book says
pub record Diagrams : Type 0 where
  pub bits : ℕ
  pub nodes : List Node

-- whether a word lies in the set of an id
abbrev pub has_word : Diagrams → ℕ → ℕ → Bool
has_word book id word = set_of book.nodes id (bits_of word)

-- the new book has the old one's nodes, each at its place, and maybe more after them
pub record Extends (old new : Diagrams) : Type 0 where
  pub bits : new.bits ≡ old.bits
  pub more : List Node
  pub nodes : new.nodes ≡ old.nodes ++ more
  pub longer : length old.nodes ≤ length new.nodes

-- each id of the old book has the same words in the new one
abbrev pub KeepsWords : Diagrams → Diagrams → Type 0
KeepsWords old new = (id word : ℕ) → id < length old.nodes → has_word new id word ≡ has_word old id word

-- words that differ at bits of the mask alone
abbrev pub DifferWithin : ℕ → ℕ → ℕ → Type 0
DifferWithin mask a b = (bit : ℕ) → bit_at mask bit ≡ 0 → bit_at a bit ≡ bit_at b bit

-- a word can be brought into a set by changing bits of the mask
abbrev pub CanReach : Diagrams → ℕ → ℕ → ℕ → Type 0
CanReach book id mask word =
    (other : ℕ) × (other < 2 ^ book.bits) × DifferWithin mask other word
    × (has_word book id other ≡ true)

-- a word with one bit set to a value
abbrev pub with_bit : ℕ → ℕ → Bool → ℕ
with_bit word bit true = bit_or word (2 ^ bit)
with_bit word bit false = bit_xor (bit_or word (2 ^ bit)) (2 ^ bit)

-- two ids hold of the same words
abbrev pub SameWords : Diagrams → ℕ → ℕ → Type 0
SameWords book i j = (word : ℕ) → word < 2 ^ book.bits → has_word book i word ≡ has_word book j word

-- two ids hold of the same words exactly where they are equal
abbrev pub IsCanonical : Diagrams → Type 0
IsCanonical book = (i j : ℕ) → i < length book.nodes → j < length book.nodes → SameWords book i j ↔ (i ≡ j)
