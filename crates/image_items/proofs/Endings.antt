-- Each line of an image text has one LF, at its end.
use Rattle.std.proofs.Common.{◌≡◌, ℕ, ◌<◌, ◌^◌, List, [], ◌∷◌, ◌++◌, refl, sym, ap, ◌∙◌, append_assoc, arith}
use Rattle.std.specs.Prelude.{codes}
use Rattle.std.specs.Fmt.{decimal}
use Rattle.code_model.specs.ImageText.{numbers_text, label_text}
use Rattle.text_lines.specs.Digits.{hex_of}
use Rattle.text_lines.proofs.Parts.{Avoids, IsLine, avoids-append}
use Rattle.text_lines.proofs.Numbers.{avoids-decimal, avoids-name}
use Rattle.image_items.specs.declared.item.Item.{Item}
use Rattle.image_items.specs.declared.item.Item.TheVariants.{Size, Temps, Variable, Tree, Label, Code, Done}
use Rattle.image_items.specs.Inner.Items.{item_line, IsSayable}
use Rattle.image_items.proofs.Laws.{label_avoids, list_avoids}
use Rattle.image_items.proofs.Digits.{hex_avoids_mark}

number_out : (n : ℕ) → n < 2 ^ 32 → Avoids 10 (decimal n)
number_out n h = avoids-decimal 10 n refl (omega arith)

-- a front that ends in LF
ends : (front : List ℕ) (line : List ℕ) → Avoids 10 front → line ≡ front ++ (10 ∷ []) → IsLine line
ends front line out e = (front, out, e)

two_numbers : (keyword : List ℕ) (m n : ℕ) → Avoids 10 keyword → m < 2 ^ 32 → n < 2 ^ 32 → IsLine (keyword ++ (decimal m ++ (32 ∷ (decimal n ++ (10 ∷ [])))))
two_numbers keyword m n k h g =
    ends (keyword ++ (decimal m ++ (32 ∷ decimal n))) _
    (avoids-append 10 keyword (decimal m ++ (32 ∷ decimal n)) k (avoids-append 10 (decimal m) (32 ∷ decimal n) (number_out m h) (refl, number_out n g)))
    (ap (λ r. keyword ++ r) (sym (append_assoc (decimal m) (32 ∷ decimal n) (10 ∷ []))) ∙ sym (append_assoc keyword (decimal m ++ (32 ∷ decimal n)) (10 ∷ [])))

-- a front before a text with an ending
longer : (front line : List ℕ) → Avoids 10 front → IsLine line → IsLine (front ++ line)
longer front line out l = (front ++ l.0, avoids-append 10 front l.0 out l.1, ap (λ r. front ++ r) l.2 ∙ sym (append_assoc front l.0 (10 ∷ [])))

last : (text : List ℕ) → Avoids 10 text → IsLine (text ++ (10 ∷ []))
last text out = (text, out, refl)

pub item_ends : (bytes : ℕ) (item : Item) → IsSayable item → IsLine (item_line bytes item)
item_ends bytes (Size bits count) h = two_numbers (codes "image ") bits count (refl, (refl, (refl, (refl, (refl, (refl, tt)))))) h.0 h.1
item_ends bytes (Temps temps) h = longer (codes "temps ") (decimal temps ++ (10 ∷ [])) (refl, (refl, (refl, (refl, (refl, (refl, tt)))))) (last (decimal temps) (number_out temps h))
item_ends bytes (Variable place) h =
    longer (codes "place ") _ (refl, (refl, (refl, (refl, (refl, (refl, tt)))))) (longer place.name _ (avoids-name 10 place.name refl h.name) (two_numbers (codes " ") place.address place.len (refl, tt) h.address h.len))
item_ends bytes (Tree cost) h = two_numbers (codes "tree ") cost.0 cost.1 (refl, (refl, (refl, (refl, (refl, tt))))) h.0 h.1
item_ends bytes (Label mark) h =
    longer (codes "mark ") _ (refl, (refl, (refl, (refl, (refl, tt))))) (longer (decimal mark.address) _ (number_out mark.address h.address) (longer (codes " ") _ (refl, tt) (last (label_text mark.label) (label_avoids mark.label h.label))))
item_ends bytes (Code address word) h =
    longer (codes "word ") _ (refl, (refl, (refl, (refl, (refl, tt))))) (longer (decimal address) _ (number_out address h.0) (longer (codes " ") _ (refl, tt)
    (longer (hex_of bytes word.word) _ (hex_avoids_mark 10 bytes word.word (refl, (refl, (refl, (refl, (refl, (refl, (refl, (refl, (refl, (refl, (refl, (refl, (refl, (refl, (refl, (refl, tt)))))))))))))))) refl)
    (longer (codes " ") _ (refl, tt) (last (numbers_text word.patterns) (list_avoids word.patterns h.1))))))
item_ends bytes Done h = (codes "done", (refl, (refl, (refl, (refl, tt)))), refl)
