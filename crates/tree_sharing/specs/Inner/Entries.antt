-- What holds of each entry of a map, and of some key.
use Rattle.std.specs.Prelude.{List, [], ◌∷◌, ◌⊎◌}

abbrev pub EachEntry : {K V : Type 0} → (K → V → Type 0) → List (K × V) → Type 0
EachEntry P [] = Unit {0}
EachEntry P (e ∷ es) = P e.0 e.1 × EachEntry P es

abbrev pub AnyKey : {K V : Type 0} → (K → Type 0) → List (K × V) → Type 0
AnyKey P [] = ⊥
AnyKey P (e ∷ es) = P e.0 ⊎ AnyKey P es
