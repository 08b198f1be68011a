-- The parts of an image: its words, the labels of addresses, and the cells of places.
use Rattle.std.specs.Prelude.{ℕ, List, [], ◌∷◌, ◌++◌, ◌+◌, ◌≤◌, ◌==◌, if◌then◌else◌, map, take, drop, Option, Some, None}
use Rattle.src_model.specs.declared.checkpoint.Checkpoint.{Checkpoint}
use Rattle.src_model.specs.declared.checkpoint.Checkpoint.TheVariants.{At, End}
use Rattle.code_model.specs.declared.image.Image.{Image}
use Rattle.code_model.specs.declared.image.Mark.{Mark}
use Rattle.code_model.specs.declared.image.Place.{Place}

-- the instruction words
abbrev pub words_of : Image → List ℕ
words_of image = map (λ word. word.word) image.words

-- ---- marks

abbrev pub checkpoint_of : Option ℕ → Checkpoint
checkpoint_of (Some tree) = At tree
checkpoint_of None = End

-- the label of an address
abbrev pub label_at : List Mark → ℕ → Option Checkpoint
label_at [] address = None
label_at (mark ∷ marks) address =
    if mark.address == address then Some (checkpoint_of mark.label) else label_at marks address

-- ---- places

-- the cells at the places, in order
abbrev pub cells_at : List Place → List ℕ → List ℕ
cells_at [] cells = []
cells_at (place ∷ places) cells = take place.len (drop place.address cells) ++ cells_at places cells

-- how many cells variables have together; a variable is its name and its number of cells
abbrev pub cells_of : List (List ℕ × ℕ) → ℕ
cells_of [] = 0
cells_of (var ∷ vars) = var.1 + cells_of vars

-- the variables' places from an address on, in order of declaration
abbrev pub places_from : ℕ → List (List ℕ × ℕ) → List Place
places_from at [] = []
places_from at (var ∷ vars) = record { name = var.0; address = at; len = var.1 } ∷ places_from (at + var.1) vars

-- places that follow each other from an address on, each after the one before, up to an end
abbrev pub Apart : ℕ → List Place → ℕ → Type 0
Apart from [] end = from ≤ end
Apart from (place ∷ places) end = (from ≤ place.address) × Apart (place.address + place.len) places end
