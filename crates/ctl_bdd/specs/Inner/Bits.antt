-- Numbers whose bits are sets of words, the lowest bit first.
use Rattle.std.specs.Prelude.{◌&&◌, ◌||◌, not, if◌then◌else◌, Bool, true, List, [], ◌∷◌}
use Rattle.ctl_bdd.specs.declared.bits.Pairing.{Pairing}
use Rattle.ctl_bdd.specs.declared.bits.Pairing.TheVariants.{And, Or, Xor}

-- ---- bit by bit

abbrev pub pair_of : Pairing → Bool → Bool → Bool
pair_of And a b = a && b
pair_of Or a b = a || b
pair_of Xor a b = if a then not b else b

abbrev pub pairs_of : Pairing → List Bool → List Bool → List Bool
pairs_of pairing [] bs = []
pairs_of pairing (a ∷ rest) [] = []
pairs_of pairing (a ∷ rest) (b ∷ bs) = pair_of pairing a b ∷ pairs_of pairing rest bs

-- the bits of one list or of the other
abbrev pub choice_of : Bool → List Bool → List Bool → List Bool
choice_of test on off = if test then on else off

-- two bits that are alike
abbrev pub alike : Bool → Bool → Bool
alike a b = if a then b else not b

-- all bits are alike
abbrev pub all_alike : List Bool → List Bool → Bool
all_alike [] bs = true
all_alike (a ∷ rest) [] = true
all_alike (a ∷ rest) (b ∷ bs) = alike a b && all_alike rest bs
