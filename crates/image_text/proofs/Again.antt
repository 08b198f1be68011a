-- The lines of the text of an image that fits.
use Rattle.std.proofs.Common.{◌≡◌, ℕ, ◌+◌, ◌<◌, ◌^◌, List, [], ◌∷◌, ◌++◌, length, map, refl, sym, ap, ◌∙◌, append_assoc, arith}
use Rattle.std.proofs.lemmas.List.{map-append}
use Rattle.std.specs.Prelude.{codes}
use Rattle.std.specs.Fmt.{decimal}
use Rattle.std.specs.List.{AllByRecursion, concat, flat_map}
use Rattle.code_model.specs.declared.image.Image.{Image}
use Rattle.code_model.specs.declared.image.Word.{Word}
use Rattle.code_model.specs.ImageText.{place_line, cost_line, mark_line, word_line, word_lines, image_text}
use Rattle.text_lines.specs.Digits.{bytes_of}
use Rattle.text_lines.specs.Lines.{lines_of}
use Rattle.text_lines.proofs.Parts.{IsLine, lines-joined}
use Rattle.image_items.specs.declared.item.Item.{Item}
use Rattle.image_items.specs.declared.item.Item.TheVariants.{Size, Temps, Variable, Tree, Label, Code, Done}
use Rattle.image_items.specs.Inner.Items.{item_line}
use Rattle.image_items.proofs.Endings.{item_ends}
use Rattle.code_model.specs.declared.limits.Limits.{Limits}
use Rattle.code_model.specs.ImageFits.{PlaceFits, MarkFits, CostFits, CodeFits, IsFitting}
use Rattle.image_text.specs.Inner.Lines.{code_items, image_lines}

-- ---- the lines one after the other are the text

concat-append : (xs ys : List (List ℕ)) → concat (xs ++ ys) ≡ concat xs ++ concat ys
concat-append [] ys = refl
concat-append (x ∷ xs) ys = ap (λ r. x ++ r) (concat-append xs ys) ∙ sym (append_assoc x (concat xs) (concat ys))

joined : {A : Type 0} (line : Item → List ℕ) (item : A → Item) (text : A → List ℕ) → ((a : A) → line (item a) ≡ text a) → (xs : List A) → concat (map line (map item xs)) ≡ flat_map text xs
joined line item text h [] = refl
joined line item text h (x ∷ xs) = ap (λ l. l ++ concat (map line (map item xs))) (h x) ∙ ap (λ r. text x ++ r) (joined line item text h xs)

joined_codes : (bytes address : ℕ) (ws : List Word) → concat (map (item_line bytes) (code_items address ws)) ≡ word_lines bytes address ws
joined_codes bytes address [] = refl
joined_codes bytes address (w ∷ ws) = ap (λ r. word_line bytes address w ++ r) (joined_codes bytes (address + 1) ws)

parted : (line : Item → List ℕ) (xs ys : List Item) (x y : List ℕ) → concat (map line xs) ≡ x → concat (map line ys) ≡ y → concat (map line (xs ++ ys)) ≡ x ++ y
parted line xs ys x y e f = ap concat (map-append line xs ys) ∙ concat-append (map line xs) (map line ys) ∙ ap (λ l. l ++ concat (map line ys)) e ∙ ap (λ r. x ++ r) f

two_lines : (b n t tail : List ℕ) → (codes "image " ++ (b ++ (32 ∷ (n ++ (10 ∷ []))))) ++ ((codes "temps " ++ (t ++ (10 ∷ []))) ++ tail) ≡ (codes "image " ++ (b ++ (32 ∷ (n ++ (codes "\ntemps " ++ (t ++ (10 ∷ []))))))) ++ tail
two_lines b n t tail = simp append_assoc

pub whole_text : (image : Image) → concat (image_lines image) ≡ image_text image
whole_text image =
    let bytes = bytes_of image.bits in
    let line = item_line bytes in
    let codes_end = parted line (code_items 0 image.words) (Done ∷ []) (word_lines bytes 0 image.words) _ (joined_codes bytes 0 image.words) refl in
    let marks_end = parted line (map Label image.marks) _ (flat_map mark_line image.marks) _ (joined line (λ m. Label m) mark_line (λ m. refl) image.marks) codes_end in
    let costs_end = parted line (map Tree image.costs) _ (flat_map cost_line image.costs) _ (joined line (λ c. Tree c) cost_line (λ c. refl) image.costs) marks_end in
    let places_end = parted line (map Variable image.places) _ (flat_map place_line image.places) _ (joined line (λ p. Variable p) place_line (λ p. refl) image.places) costs_end in
    ap (λ r. item_line bytes (Size image.bits (length image.words)) ++ (item_line bytes (Temps image.temps) ++ r)) places_end ∙ two_lines (decimal image.bits) (decimal (length image.words)) (decimal image.temps) _

-- ---- each line has its one LF

all_items : {A : Type 0} (P : A → Type 0) (line : Item → List ℕ) (item : A → Item) → ((a : A) → P a → IsLine (line (item a))) → (xs : List A) → AllByRecursion P xs → AllByRecursion IsLine (map line (map item xs))
all_items P line item h [] a = tt
all_items P line item h (x ∷ xs) a = (h x a.0, all_items P line item h xs a.1)

all_codes : (bits bytes address : ℕ) (ws : List Word) → address + length ws < 2 ^ 32 → AllByRecursion (CodeFits bits) ws → AllByRecursion IsLine (map (item_line bytes) (code_items address ws))
all_codes bits bytes address [] small a = tt
all_codes bits bytes address (w ∷ ws) small a = (item_ends bytes (Code address w) (omega (arith, small), a.0.patterns), all_codes bits bytes (address + 1) ws (omega (arith, small)) a.1)

all_parts : (line : Item → List ℕ) (xs ys : List Item) → AllByRecursion IsLine (map line xs) → AllByRecursion IsLine (map line ys) → AllByRecursion IsLine (map line (xs ++ ys))
all_parts line [] ys a b = b
all_parts line (x ∷ xs) ys a b = (a.0, all_parts line xs ys a.1 b)

pub whole_lines : (limits : Limits) (image : Image) → image.bits < 2 ^ 32 → limits.words < 2 ^ 32 → IsFitting limits image → AllByRecursion IsLine (image_lines image)
whole_lines limits image small words f =
    let bytes = bytes_of image.bits in
    let line = item_line bytes in
    let end : AllByRecursion IsLine (map line (Done ∷ [])) = (item_ends bytes Done tt, tt) in (
      item_ends bytes (Size image.bits (length image.words)) (small, omega (arith, f.few, words)),
      (
        item_ends bytes (Temps image.temps) f.temps,
        all_parts line (map Variable image.places) _ (all_items PlaceFits line (λ p. Variable p) (λ p h. item_ends bytes (Variable p) h) image.places f.places)
            (all_parts line (map Tree image.costs) _ (all_items CostFits line (λ c. Tree c) (λ c h. item_ends bytes (Tree c) (h.tree, h.cost)) image.costs f.costs)
            (all_parts line (map Label image.marks) _ (all_items MarkFits line (λ m. Label m) (λ m h. item_ends bytes (Label m) h) image.marks f.marks)
            (all_parts line (code_items 0 image.words) (Done ∷ []) (all_codes limits.bits bytes 0 image.words (omega (arith, f.few, words)) f.words) end))),
      ),
    )

pub written_lines : (limits : Limits) (image : Image) → limits.bits < 2 ^ 32 → limits.words < 2 ^ 32 → IsFitting limits image → lines_of (image_text image) ≡ image_lines image
written_lines limits image small words f =
    ap lines_of (sym (whole_text image)) ∙ lines-joined (image_lines image) (whole_lines limits image (omega (arith, f.bits, small)) words f)
