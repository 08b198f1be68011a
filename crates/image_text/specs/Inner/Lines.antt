-- The lines of an image's text, by what they say.
use Rattle.std.specs.Prelude.{ℕ, ◌+◌, List, [], ◌∷◌, ◌++◌, length, map}
use Rattle.code_model.specs.declared.image.Image.{Image}
use Rattle.code_model.specs.declared.image.Word.{Word}
use Rattle.text_lines.specs.Digits.{bytes_of}
use Rattle.image_items.specs.declared.item.Item.{Item}
use Rattle.image_items.specs.declared.item.Item.TheVariants.{Size, Temps, Variable, Tree, Label, Code, Done}
use Rattle.image_items.specs.Inner.Items.{item_line}

-- the words from an address on
abbrev pub code_items : ℕ → List Word → List Item
code_items address [] = []
code_items address (word ∷ words) = Code address word ∷ code_items (address + 1) words

-- image, temps, each place, each tree, each mark, each word, done
abbrev pub image_items : Image → List Item
image_items image =
    Size image.bits (length image.words) ∷ Temps image.temps
    ∷ (map Variable image.places
    ++ (map Tree image.costs ++ (map Label image.marks ++ (code_items 0 image.words ++ (Done ∷ [])))))

abbrev pub image_lines : Image → List (List ℕ)
image_lines image = map (item_line (bytes_of image.bits)) (image_items image)
