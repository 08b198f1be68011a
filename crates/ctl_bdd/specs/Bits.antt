-- Numbers whose bits are sets of words, the lowest bit first.
use Rattle.std.specs.Prelude.{ℕ, ◌+◌, ◌*◌, ◌<◌, Bool, List, [], ◌∷◌, length, map}
use Rattle.rec_bits.specs.Operators.{bit_of}
use Rattle.bit_bdd.specs.Diagrams.{Diagrams, has_word}

-- each of them is a set of the book
abbrev pub AreSets : Diagrams → List ℕ → Type 0
AreSets book [] = Unit {0}
AreSets book (set ∷ sets) = (set < length book.nodes) × AreSets book sets

-- which of the sets a word lies in
abbrev pub bools : Diagrams → List ℕ → ℕ → List Bool
bools book sets word = map (λ set. has_word book set word) sets

-- the number of these bits
abbrev pub bits_value : List Bool → ℕ
bits_value [] = 0
bits_value (b ∷ bs) = bits_value bs * 2 + bit_of b

-- the number that the sets give at a word: its bit is 1 where the word lies in the bit's set
abbrev pub number_at : Diagrams → List ℕ → ℕ → ℕ
number_at book sets word = bits_value (bools book sets word)
