-- The text of an image.
use Rattle.std.specs.Prelude.{ℕ, ◌+◌, List, [], ◌∷◌, ◌++◌, codes, length, Option, Some, None}
use Rattle.std.specs.List.{concat, flat_map}
use Rattle.std.specs.Fmt.{decimal}
use Rattle.text_lines.specs.Digits.{bytes_of, hex_of}
use Rattle.code_model.specs.declared.image.Image.{Image}
use Rattle.code_model.specs.declared.image.Mark.{Mark}
use Rattle.code_model.specs.declared.image.Place.{Place}
use Rattle.code_model.specs.declared.image.Word.{Word}

-- image BITS COUNT, and temps T
abbrev pub image_head : Image → List ℕ
image_head image =
    concat (codes "image " ∷ decimal image.bits ∷ codes " " ∷ decimal (length image.words)
    ∷ codes "\ntemps " ∷ decimal image.temps ∷ codes "\n" ∷ [])

-- place NAME ADDRESS LENGTH
abbrev pub place_line : Place → List ℕ
place_line place =
    concat (codes "place " ∷ place.name ∷ codes " " ∷ decimal place.address ∷ codes " "
    ∷ decimal place.len ∷ codes "\n" ∷ [])

-- tree NUMBER COST
abbrev pub cost_line : ℕ × ℕ → List ℕ
cost_line cost = concat (codes "tree " ∷ decimal cost.0 ∷ codes " " ∷ decimal cost.1 ∷ codes "\n" ∷ [])

-- mark ADDRESS NUMBER, and mark ADDRESS end
abbrev pub label_text : Option ℕ → List ℕ
label_text (Some tree) = decimal tree
label_text None = codes "end"

abbrev pub mark_line : Mark → List ℕ
mark_line mark = concat (codes "mark " ∷ decimal mark.address ∷ codes " " ∷ label_text mark.label ∷ codes "\n" ∷ [])

-- the wanted patterns with commas between, and - where there is none
abbrev pub after_comma : ℕ → List ℕ
after_comma n = codes "," ++ decimal n

abbrev pub numbers_text : List ℕ → List ℕ
numbers_text [] = codes "-"
numbers_text (n ∷ ns) = decimal n ++ flat_map after_comma ns

-- word ADDRESS HEX LIST, where a word has so many bytes
abbrev pub word_line : ℕ → ℕ → Word → List ℕ
word_line bytes address word =
    concat (codes "word " ∷ decimal address ∷ codes " " ∷ hex_of bytes word.word ∷ codes " "
    ∷ numbers_text word.patterns ∷ codes "\n" ∷ [])

-- the lines of words from an address on
abbrev pub word_lines : ℕ → ℕ → List Word → List ℕ
word_lines bytes address [] = []
word_lines bytes address (word ∷ words) = word_line bytes address word ++ word_lines bytes (address + 1) words

abbrev pub image_text : Image → List ℕ
image_text image =
    concat (image_head image ∷ flat_map place_line image.places ∷ flat_map cost_line image.costs
    ∷ flat_map mark_line image.marks ∷ word_lines (bytes_of image.bits) 0 image.words
    ∷ codes "done\n" ∷ [])
