-- The lines of image texts, by what they say.
use Rattle.std.specs.Prelude.{ℕ, ◌^◌, ◌<◌, List, [], ◌∷◌, codes}
use Rattle.std.specs.List.{concat}
use Rattle.std.specs.Fmt.{decimal}
use Rattle.code_model.specs.ImageFits.{AscendFrom, PlaceFits, MarkFits}
use Rattle.code_model.specs.ImageText.{place_line, cost_line, mark_line, word_line}
use Rattle.image_items.specs.declared.item.Item.{Item}
use Rattle.image_items.specs.declared.item.Item.TheVariants.{Size, Temps, Variable, Tree, Label, Code, Done}

-- image BITS COUNT
abbrev pub size_line : ℕ → ℕ → List ℕ
size_line bits count = concat (codes "image " ∷ decimal bits ∷ codes " " ∷ decimal count ∷ codes "\n" ∷ [])

-- temps T
abbrev pub temps_line : ℕ → List ℕ
temps_line temps = concat (codes "temps " ∷ decimal temps ∷ codes "\n" ∷ [])

-- the line that says this, where a word has so many bytes
abbrev pub item_line : ℕ → Item → List ℕ
item_line bytes (Size bits count) = size_line bits count
item_line bytes (Temps temps) = temps_line temps
item_line bytes (Variable place) = place_line place
item_line bytes (Tree cost) = cost_line cost
item_line bytes (Label mark) = mark_line mark
item_line bytes (Code address word) = word_line bytes address word
item_line bytes Done = codes "done\n"

-- what a line can say: names are names, numbers are below 2^32, patterns ascend
abbrev pub IsSayable : Item → Type 0
IsSayable (Size bits count) = (bits < 2 ^ 32) × (count < 2 ^ 32)
IsSayable (Temps temps) = temps < 2 ^ 32
IsSayable (Variable place) = PlaceFits place
IsSayable (Tree cost) = (cost.0 < 2 ^ 32) × (cost.1 < 2 ^ 32)
IsSayable (Label mark) = MarkFits mark
IsSayable (Code address word) = (address < 2 ^ 32) × AscendFrom 0 word.patterns
IsSayable Done = Unit {0}

-- a word lies within so many bytes
abbrev pub IsWithin : ℕ → Item → Type 0
IsWithin bytes (Code address word) = word.word < 256 ^ bytes
IsWithin bytes item = Unit {0}
