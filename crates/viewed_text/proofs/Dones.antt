-- Where `done` stands among lines.
use Rattle.std.proofs.Common.{◌≡◌, ◌⊎◌, inl, inr, ℕ, ◌+◌, ◌<◌, ◌^◌, List, [], ◌∷◌, ◌++◌, length, map, refl, sym, ap, subst, ◌∙◌, append_assoc, length-append, arith}
use Rattle.std.proofs.lemmas.List.{map-append}
use Rattle.std.specs.List.{AllByRecursion, concat}
use Rattle.rec_bits.proofs.Lists.{all_append}
use Rattle.code_model.specs.declared.image.Image.{Image}
use Rattle.code_model.specs.declared.image.Word.{Word}
use Rattle.code_model.specs.declared.limits.Limits.{Limits}
use Rattle.code_model.specs.ImageFits.{IsFitting}
use Rattle.code_model.specs.ImageText.{image_text}
use Rattle.text_lines.specs.Digits.{bytes_of}
use Rattle.text_lines.specs.Lines.{lines_of}
use Rattle.text_lines.proofs.Parts.{IsLine}
use Rattle.image_items.specs.declared.item.Item.{Item}
use Rattle.image_items.specs.declared.item.Item.TheVariants.{Size, Temps, Variable, Tree, Label, Code, Done}
use Rattle.image_items.specs.Inner.Items.{item_line}
use Rattle.image_text.specs.Inner.Lines.{code_items, image_lines}
use Rattle.image_text.proofs.Again.{whole_lines, whole_text}
use Rattle.viewed_text.specs.Inner.Behind.{EndsAtDone, IsOther, done_line}
use Rattle.viewed_text.proofs.Lines.{concat-last, done_ends, done_lines, lines_more, other_first, whole_more}

-- ---- lists of lines

pub first_done : (xs ys us vs : List (List ℕ)) → AllByRecursion IsOther xs → AllByRecursion IsOther us → xs ++ (done_line ∷ ys) ≡ us ++ (done_line ∷ vs) → (xs ≡ us) × (ys ≡ vs)
first_done [] ys [] vs h k e = (refl, cc)
first_done [] ys (u ∷ us) vs h k e = let s : u ≡ done_line = cc in absurd (k.0 s)
first_done (x ∷ xs) ys [] vs h k e = let s : x ≡ done_line = cc in absurd (h.0 s)
first_done (x ∷ xs) ys (u ∷ us) vs h k e =
    let s : x ≡ u = cc in
    let t : xs ++ (done_line ∷ ys) ≡ us ++ (done_line ∷ vs) = cc in
    let r = first_done xs ys us vs h.1 k.1 t in
    ((λ j. s j ∷ r.0 j), r.1)

-- lines without `done` and one more are the front of those up to the first `done`
pub prefix_at : (xs : List (List ℕ)) (l : List ℕ) (more us vs : List (List ℕ)) → AllByRecursion IsOther xs → xs ++ (l ∷ more) ≡ us ++ (done_line ∷ vs) →
    (zs : List (List ℕ)) × (us ++ (done_line ∷ []) ≡ (xs ++ (l ∷ [])) ++ zs)
prefix_at [] l more [] vs h e = let s : l ≡ done_line = cc in ([], ap (λ d. d ∷ []) (sym s))
prefix_at [] l more (u ∷ us) vs h e = let s : l ≡ u = cc in (us ++ (done_line ∷ []), ap (λ d. d ∷ (us ++ (done_line ∷ []))) (sym s))
prefix_at (x ∷ xs) l more [] vs h e = let s : x ≡ done_line = cc in absurd (h.0 s)
prefix_at (x ∷ xs) l more (u ∷ us) vs h e =
    let s : x ≡ u = cc in
    let t : xs ++ (l ∷ more) ≡ us ++ (done_line ∷ vs) = cc in
    let r = prefix_at xs l more us vs h.1 t in
    (r.0, ap (λ d. u ∷ d) r.1 ∙ ap (λ d. d ∷ ((xs ++ (l ∷ [])) ++ r.0)) (sym s))

pub all_front : (P : List ℕ → Type 0) (xs ys : List (List ℕ)) → AllByRecursion P (xs ++ ys) → AllByRecursion P xs
all_front P [] ys h = tt
all_front P (x ∷ xs) ys h = (h.0, all_front P xs ys h.1)

-- what stands before a line of those up to the first `done`
pub others_before : (xs : List (List ℕ)) (l : List ℕ) (after us : List (List ℕ)) → AllByRecursion IsOther us → us ++ (done_line ∷ []) ≡ xs ++ (l ∷ after) → AllByRecursion IsOther xs
others_before [] l after us h e = tt
others_before (x ∷ xs) l after [] h e = absurd (omega (arith, ap length e, length-append xs (l ∷ after)))
others_before (x ∷ xs) l after (u ∷ us) h e =
    let s : u ≡ x = cc in
    let t : us ++ (done_line ∷ []) ≡ xs ++ (l ∷ after) = cc in
    (subst IsOther s h.0, others_before xs l after us h.1 t)

-- no line
abbrev pub no_more : List (List ℕ)
no_more = []

-- a line among lines with a last one is that, or one before it
pub snoc_split : (xs : List (List ℕ)) (y : List ℕ) (after us : List (List ℕ)) (d : List ℕ) → xs ++ (y ∷ after) ≡ us ++ (d ∷ []) →
    ((zs : List (List ℕ)) × (us ≡ xs ++ (y ∷ zs))) ⊎ ((y ≡ d) × (after ≡ []) × (xs ≡ us))
snoc_split [] y after [] d e = inr (cc, cc, refl)
snoc_split [] y after (u ∷ us) d e = let s : y ≡ u = cc in inl (us, ap (λ v. v ∷ us) (sym s))
snoc_split (x ∷ xs) y after [] d e = absurd (omega (arith, ap length e, length-append xs (y ∷ after)))
snoc_split (x ∷ xs) y after (u ∷ us) d e =
    let s : x ≡ u = cc in
    let t : xs ++ (y ∷ after) ≡ us ++ (d ∷ []) = cc in
    step s (snoc_split xs y after us d t)
  where
    step : x ≡ u → ((zs : List (List ℕ)) × (us ≡ xs ++ (y ∷ zs))) ⊎ ((y ≡ d) × (after ≡ []) × (xs ≡ us)) →
        ((zs : List (List ℕ)) × ((u ∷ us) ≡ (x ∷ xs) ++ (y ∷ zs))) ⊎ ((y ≡ d) × (after ≡ []) × ((x ∷ xs) ≡ (u ∷ us)))
    step s (inl p) = inl (p.0, ap (λ v. u ∷ v) p.1 ∙ ap (λ v. v ∷ (xs ++ (y ∷ p.0))) (sym s))
    step s (inr p) = inr (p.0, p.1, ap (λ v. x ∷ v) p.2 ∙ ap (λ v. v ∷ us) s)

-- ---- the lines of a parted text

pub ends_lines : (bytes front rest : List ℕ) (e : EndsAtDone bytes front rest) → lines_of bytes ≡ e.before ++ (done_line ∷ lines_of rest)
ends_lines bytes front rest e =
    ap lines_of (e.text ∙ ap (λ f. f ++ rest) e.front_is ∙ append_assoc (concat e.before) done_line rest) ∙ e.others.whole (done_line ++ rest)
    ∙ ap (λ r. e.before ++ r) (whole_more done_line rest done_ends)

pub front_lines : (bytes front rest : List ℕ) (e : EndsAtDone bytes front rest) → lines_of front ≡ e.before ++ (done_line ∷ [])
front_lines bytes front rest e = ap lines_of e.front_is ∙ e.others.whole done_line ∙ ap (λ r. e.before ++ r) done_lines

-- ---- the lines of an image

abbrev IsNoDone : Item → Type 0
IsNoDone (Size bits count) = Unit {0}
IsNoDone (Temps temps) = Unit {0}
IsNoDone (Variable place) = Unit {0}
IsNoDone (Tree cost) = Unit {0}
IsNoDone (Label mark) = Unit {0}
IsNoDone (Code address word) = Unit {0}
IsNoDone Done = ⊥

other_item : (bytes : ℕ) (item : Item) → IsNoDone item → IsOther (item_line bytes item)
other_item bytes (Size bits count) h = other_first 105 _ refl
other_item bytes (Temps temps) h = other_first 116 _ refl
other_item bytes (Variable place) h = other_first 112 _ refl
other_item bytes (Tree cost) h = other_first 116 _ refl
other_item bytes (Label mark) h = other_first 109 _ refl
other_item bytes (Code address word) h = other_first 119 _ refl
other_item bytes Done h = absurd h

other_items : (bytes : ℕ) (items : List Item) → AllByRecursion IsNoDone items → AllByRecursion IsOther (map (item_line bytes) items)
other_items bytes [] h = tt
other_items bytes (item ∷ items) h = (other_item bytes item h.0, other_items bytes items h.1)

all_of : {A : Type 0} (f : A → Item) → ((a : A) → IsNoDone (f a)) → (xs : List A) → AllByRecursion IsNoDone (map f xs)
all_of f h [] = tt
all_of f h (x ∷ xs) = (h x, all_of f h xs)

all_codes : (address : ℕ) (words : List Word) → AllByRecursion IsNoDone (code_items address words)
all_codes address [] = tt
all_codes address (word ∷ words) = (tt, all_codes (address + 1) words)

-- all lines but the last
abbrev body : Image → List Item
body image = Size image.bits (length image.words) ∷ Temps image.temps ∷ (map Variable image.places ++ (map Tree image.costs ++ (map Label image.marks ++ code_items 0 image.words)))

abbrev before_done : Image → List (List ℕ)
before_done image = map (item_line (bytes_of image.bits)) (body image)

all_body : (image : Image) → AllByRecursion IsNoDone (body image)
all_body image = (
  tt,
  (
    tt,
    all_append IsNoDone (map Variable image.places) _ (all_of (λ p. Variable p) (λ p. tt) image.places)
        (all_append IsNoDone (map Tree image.costs) _ (all_of (λ c. Tree c) (λ c. tt) image.costs)
        (all_append IsNoDone (map Label image.marks) _ (all_of (λ m. Label m) (λ m. tt) image.marks) (all_codes 0 image.words))),
  ),
)

lines_split : (image : Image) → image_lines image ≡ before_done image ++ (done_line ∷ [])
lines_split image =
    let f = item_line (bytes_of image.bits) in
    let vs = map Variable image.places in
    let ts = map Tree image.costs in
    let ls = map Label image.marks in
    let ws = code_items 0 image.words in
    let end : List Item = Done ∷ [] in
    let tail : vs ++ (ts ++ (ls ++ (ws ++ end))) ≡ (vs ++ (ts ++ (ls ++ ws))) ++ end =
    sym (append_assoc vs (ts ++ (ls ++ ws)) end ∙ ap (λ r. vs ++ r) (append_assoc ts (ls ++ ws) end ∙ ap (λ r. ts ++ r) (append_assoc ls ws end))) in
    ap (λ r. map f (Size image.bits (length image.words) ∷ Temps image.temps ∷ r)) tail ∙ map-append f (body image) end

-- the text of an image ends with its first `done`
pub image_ends : (limits : Limits) (image : Image) → limits.bits < 2 ^ 32 → limits.words < 2 ^ 32 → IsFitting limits image → (behind : List ℕ) → EndsAtDone (image_text image ++ behind) (image_text image) behind
image_ends limits image small words fits behind =
    let before = before_done image in
    let whole : AllByRecursion IsLine (before ++ (done_line ∷ [])) =
    subst (AllByRecursion IsLine) (lines_split image) (whole_lines limits image (omega (arith, fits.bits, small)) words fits) in
    let ends : AllByRecursion IsLine before = all_front IsLine before (done_line ∷ []) whole in
    record {
      before = before;
      others = record { whole = λ (text : List ℕ). lines_more before text ends; others = other_items (bytes_of image.bits) (body image) (all_body image) };
      front_is = sym (whole_text image) ∙ ap concat (lines_split image) ∙ concat-last before done_line;
      text = refl;
    }
