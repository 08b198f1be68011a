-- Reading line by line: what was read is the front of a text, and the text of an image is read
-- whole.
use Rattle.std.proofs.Common.{◌≡◌, ◌==◌, ◌&&◌, ℕ, ◌+◌, ◌^◌, ◌<◌, ◌≤◌, List, [], ◌∷◌, ◌++◌, length, map, Bool, true, false, Some, None, refl, sym, ap, subst, ◌∙◌, append_assoc, eqb-true, length-append, arith}
use Rattle.std.proofs.lemmas.List.{append-nil}
use Rattle.std.proofs.lemmas.Option.{cond_some, same_Some}
use Rattle.std.proofs.lemmas.Bool.{ltb-true, leb-true}
use Rattle.std.specs.Prelude.{nat_le, nat_lt}
use Rattle.std.specs.List.{AllByRecursion}
use Rattle.rec_bits.proofs.Booleans.{both}
use Rattle.code_model.specs.declared.image.Image.{Image}
use Rattle.code_model.specs.declared.image.Mark.{Mark}
use Rattle.code_model.specs.declared.image.Place.{Place}
use Rattle.code_model.specs.declared.image.Word.{Word}
use Rattle.image_items.specs.declared.item.Item.{Item}
use Rattle.image_items.specs.declared.item.Item.TheVariants.{Size, Temps, Variable, Tree, Label, Code, Done}
use Rattle.image_items.specs.Inner.Items.{IsSayable}
use Rattle.image_text.proofs.Marks.{marks-snoc, follow_true}
use Rattle.code_model.specs.declared.limits.Limits.{Limits}
use Rattle.code_model.specs.ImageFits.{PlaceFits, MarkFits, AscendFrom, CostFits, CodeFits, IsFitting}
use Rattle.image_text.specs.declared.front.Front.{Front}
use Rattle.image_text.specs.declared.front.Front.TheVariants.{Nothing, Sized, Open, Whole}
use Rattle.image_text.specs.Inner.Lines.{code_items}
use Rattle.image_text.specs.Inner.Fronts.{no_items, may_follow, last_mark, opened, with_size, with_place, with_cost, with_mark, with_word, whole, with_item, after_nothing, after_size, step}

-- ---- what was read

abbrev pub body_items : Image → List Item
body_items image = map Variable image.places ++ (map Tree image.costs ++ (map Label image.marks ++ code_items 0 image.words))

abbrev pub front_items : Limits → Front → List Item
front_items limits Nothing = []
front_items limits (Sized count) = Size limits.bits count ∷ []
front_items limits (Open count image) = Size limits.bits count ∷ Temps image.temps ∷ body_items image
front_items limits (Whole image) = Size limits.bits (length image.words) ∷ Temps image.temps ∷ (body_items image ++ (Done ∷ []))

abbrev pub FrontFits : Limits → Front → Type 0
FrontFits limits Nothing = Unit {0}
FrontFits limits (Sized count) = count ≤ limits.words
FrontFits limits (Open count image) = (count ≤ limits.words) × (length image.words ≤ count) × IsFitting limits image
FrontFits limits (Whole image) = IsFitting limits image

-- one more item
pub record Goes (limits : Limits) (front : Front) (item : Item) (next : Front) : Type 0 where
  pub items : front_items limits next ≡ front_items limits front ++ (item ∷ [])
  pub fits : FrontFits limits next

all-snoc : {A : Type 0} (P : A → Type 0) (xs : List A) (x : A) → AllByRecursion P xs → P x → AllByRecursion P (xs ++ (x ∷ []))
all-snoc P [] x h p = (p, tt)
all-snoc P (y ∷ ys) x h p = (h.0, all-snoc P ys x h.1 p)

nil_of : {A : Type 0} (xs : List A) → no_items xs ≡ true → xs ≡ []
nil_of [] e = refl
nil_of (x ∷ xs) e = absurd (omega (arith, eqb-true (length (x ∷ xs)) 0 e))

three : (a b c : Bool) → (a && b && c) ≡ true → (a ≡ true) × (b ≡ true) × (c ≡ true)
three true b c e = let p = both b c e in (refl, p.0, p.1)
three false b c e = absurd cc

-- the items of the lists, with one more at an end
abbrev lists : List Place → List (ℕ × ℕ) → List Mark → List Word → List Item
lists ps cs ms ws = map Variable ps ++ (map Tree cs ++ (map Label ms ++ code_items 0 ws))

map-snoc : {A : Type 0} (f : A → Item) (xs : List A) (x : A) → map f (xs ++ (x ∷ [])) ≡ map f xs ++ (f x ∷ [])
map-snoc f [] x = refl
map-snoc f (y ∷ ys) x = ap (λ r. f y ∷ r) (map-snoc f ys x)

more_places : (ps : List Place) (p : Place) (cs : List (ℕ × ℕ)) (ms : List Mark) (ws : List Word) → cs ≡ [] → ms ≡ [] → ws ≡ [] → lists (ps ++ (p ∷ [])) cs ms ws ≡ lists ps cs ms ws ++ (Variable p ∷ [])
more_places ps p [] [] [] e f g = append-nil (map Variable (ps ++ (p ∷ []))) ∙ map-snoc Variable ps p ∙ ap (λ xs. xs ++ (Variable p ∷ [])) (sym (append-nil (map Variable ps)))
more_places ps p (c ∷ cs) ms ws e f g = absurd cc
more_places ps p [] (m ∷ ms) ws e f g = absurd cc
more_places ps p [] [] (w ∷ ws) e f g = absurd cc

more_costs : (ps : List Place) (cs : List (ℕ × ℕ)) (c : ℕ × ℕ) (ms : List Mark) (ws : List Word) → ms ≡ [] → ws ≡ [] → lists ps (cs ++ (c ∷ [])) ms ws ≡ lists ps cs ms ws ++ (Tree c ∷ [])
more_costs ps cs c [] [] f g =
    ap (λ r. map Variable ps ++ r) (append-nil (map Tree (cs ++ (c ∷ []))) ∙ map-snoc Tree cs c ∙ ap (λ xs. xs ++ (Tree c ∷ [])) (sym (append-nil (map Tree cs))))
    ∙ sym (append_assoc (map Variable ps) (map Tree cs ++ []) (Tree c ∷ []))
more_costs ps cs c (m ∷ ms) ws f g = absurd cc
more_costs ps cs c [] (w ∷ ws) f g = absurd cc

more_marks : (ps : List Place) (cs : List (ℕ × ℕ)) (ms : List Mark) (m : Mark) (ws : List Word) → ws ≡ [] → lists ps cs (ms ++ (m ∷ [])) ws ≡ lists ps cs ms ws ++ (Label m ∷ [])
more_marks ps cs ms m [] g =
    ap (λ r. map Variable ps ++ (map Tree cs ++ r)) (append-nil (map Label (ms ++ (m ∷ []))) ∙ map-snoc Label ms m ∙ ap (λ xs. xs ++ (Label m ∷ [])) (sym (append-nil (map Label ms))))
    ∙ ap (λ r. map Variable ps ++ r) (sym (append_assoc (map Tree cs) (map Label ms ++ []) (Label m ∷ [])))
    ∙ sym (append_assoc (map Variable ps) (map Tree cs ++ (map Label ms ++ [])) (Label m ∷ []))
more_marks ps cs ms m (w ∷ ws) g = absurd cc

pub codes-append : (a : ℕ) (ws us : List Word) → code_items a (ws ++ us) ≡ code_items a ws ++ code_items (a + length ws) us
codes-append a [] us = let e : a ≡ a + 0 = omega arith in ap (λ n. code_items n us) e
codes-append a (w ∷ ws) us = let e : (a + 1) + length ws ≡ a + length (w ∷ ws) = omega arith in ap (λ r. Code a w ∷ r) (codes-append (a + 1) ws us ∙ ap (λ n. code_items (a + 1) ws ++ code_items n us) e)

pub more_codes : (ps : List Place) (cs : List (ℕ × ℕ)) (ms : List Mark) (ws us : List Word) → lists ps cs ms (ws ++ us) ≡ lists ps cs ms ws ++ code_items (length ws) us
more_codes ps cs ms ws us =
    let e : 0 + length ws ≡ length ws = omega arith in
    ap (λ r. map Variable ps ++ (map Tree cs ++ (map Label ms ++ r))) (codes-append 0 ws us ∙ ap (λ n. code_items 0 ws ++ code_items n us) e)
    ∙ ap (λ r. map Variable ps ++ (map Tree cs ++ r)) (sym (append_assoc (map Label ms) (code_items 0 ws) (code_items (length ws) us)))
    ∙ ap (λ r. map Variable ps ++ r) (sym (append_assoc (map Tree cs) (map Label ms ++ code_items 0 ws) (code_items (length ws) us)))
    ∙ sym (append_assoc (map Variable ps) (map Tree cs ++ (map Label ms ++ code_items 0 ws)) (code_items (length ws) us))

-- ---- one more line

place_goes : (limits : Limits) (count : ℕ) (image : Image) (place : Place) (next : Front) → FrontFits limits (Open count image) → PlaceFits place → with_place count image place ≡ Some next → Goes limits (Open count image) (Variable place) next
unfolding with_place
place_goes limits count image place next h f e =
    let more : Image = record image { places = image.places ++ (place ∷ []) } in
    let p = cond_some (no_items image.costs && no_items image.marks && no_items image.words) (Open count more) next e in
    let t = three (no_items image.costs) (no_items image.marks) (no_items image.words) p.0 in
    let old = h.2 in
    subst (Goes limits (Open count image) (Variable place)) p.1 (record {
      items = ap (λ r. Size limits.bits count ∷ Temps image.temps ∷ r) (more_places image.places place image.costs image.marks image.words (nil_of image.costs t.0) (nil_of image.marks t.1) (nil_of image.words t.2));
      fits = (h.0, h.1, record { bits = old.bits; few = old.few; temps = old.temps; places = all-snoc PlaceFits image.places place old.places f; costs = old.costs; marks = old.marks; in_order = old.in_order; words = old.words });
    })

cost_goes : (limits : Limits) (count : ℕ) (image : Image) (cost : ℕ × ℕ) (next : Front) → FrontFits limits (Open count image) → CostFits cost → with_cost count image cost ≡ Some next → Goes limits (Open count image) (Tree cost) next
unfolding with_cost
cost_goes limits count image cost next h f e =
    let more : Image = record image { costs = image.costs ++ (cost ∷ []) } in
    let p = cond_some (no_items image.marks && no_items image.words) (Open count more) next e in
    let t = both (no_items image.marks) (no_items image.words) p.0 in
    let old = h.2 in
    subst (Goes limits (Open count image) (Tree cost)) p.1 (record {
      items = ap (λ r. Size limits.bits count ∷ Temps image.temps ∷ r) (more_costs image.places image.costs cost image.marks image.words (nil_of image.marks t.0) (nil_of image.words t.1));
      fits = (h.0, h.1, record { bits = old.bits; few = old.few; temps = old.temps; places = old.places; costs = all-snoc CostFits image.costs cost old.costs f; marks = old.marks; in_order = old.in_order; words = old.words });
    })

mark_goes : (limits : Limits) (count : ℕ) (image : Image) (mark : Mark) (next : Front) → FrontFits limits (Open count image) → MarkFits mark → with_mark count image mark ≡ Some next → Goes limits (Open count image) (Label mark) next
unfolding with_mark
mark_goes limits count image mark next h f e =
    let more : Image = record image { marks = image.marks ++ (mark ∷ []) } in
    let p = cond_some (no_items image.words && may_follow (last_mark None image.marks) mark) (Open count more) next e in
    let t = both (no_items image.words) (may_follow (last_mark None image.marks) mark) p.0 in
    let old = h.2 in
    subst (Goes limits (Open count image) (Label mark)) p.1 (record {
      items = ap (λ r. Size limits.bits count ∷ Temps image.temps ∷ r) (more_marks image.places image.costs image.marks mark image.words (nil_of image.words t.0));
      fits = (h.0, h.1, record { bits = old.bits; few = old.few; temps = old.temps; places = old.places; costs = old.costs; marks = all-snoc MarkFits image.marks mark old.marks f; in_order = marks-snoc None image.marks mark old.in_order (follow_true (last_mark None image.marks) mark t.1); words = old.words });
    })

code_goes : (limits : Limits) (count : ℕ) (image : Image) (address : ℕ) (code : Word) (next : Front) → FrontFits limits (Open count image) → AscendFrom 0 code.patterns → with_word limits count image address code ≡ Some next → Goes limits (Open count image) (Code address code) next
unfolding with_word
code_goes limits count image address code next h f e =
    let more : Image = record image { words = image.words ++ (code ∷ []) } in
    let p = cond_some (address == length image.words && nat_lt address count && nat_lt code.word (2 ^ limits.bits)) (Open count more) next e in
    let t = three (address == length image.words) (nat_lt address count) (nat_lt code.word (2 ^ limits.bits)) p.0 in
    let here : address ≡ length image.words = eqb-true address (length image.words) t.0 in
    let room : address < count = ltb-true address count t.1 in
    let small : code.word < 2 ^ limits.bits = ltb-true code.word (2 ^ limits.bits) t.2 in
    let old = h.2 in
    let long : length (image.words ++ (code ∷ [])) ≤ count = omega (arith, length-append image.words (code ∷ [])) in
    subst (Goes limits (Open count image) (Code address code)) p.1 (record {
      items = ap (λ r. Size limits.bits count ∷ Temps image.temps ∷ r) (more_codes image.places image.costs image.marks image.words (code ∷ []) ∙ ap (λ n. body_items image ++ (Code n code ∷ [])) (sym here));
      fits = (h.0, long, record { bits = old.bits; few = omega (arith, long, h.0); temps = old.temps; places = old.places; costs = old.costs; marks = old.marks; in_order = old.in_order; words = all-snoc (CodeFits limits.bits) image.words code old.words (record { word = small; patterns = f }) });
    })

whole_goes : (limits : Limits) (count : ℕ) (image : Image) (next : Front) → FrontFits limits (Open count image) → whole count image ≡ Some next → Goes limits (Open count image) Done next
unfolding whole
whole_goes limits count image next h e =
    let p = cond_some (length image.words == count) (Whole image) next e in
    let same : length image.words ≡ count = eqb-true (length image.words) count p.0 in
    subst (Goes limits (Open count image) Done) p.1 (record { items = ap (λ n. Size limits.bits n ∷ Temps image.temps ∷ (body_items image ++ (Done ∷ []))) same; fits = h.2 })

size_goes : (limits : Limits) (bits count : ℕ) (next : Front) → with_size limits bits count ≡ Some next → Goes limits Nothing (Size bits count) next
unfolding with_size
size_goes limits bits count next e =
    let p = cond_some (bits == limits.bits && nat_le count limits.words) (Sized count) next e in
    let t = both (bits == limits.bits) (nat_le count limits.words) p.0 in
    subst (Goes limits Nothing (Size bits count)) p.1 (record { items = ap (λ n. Size n count ∷ []) (sym (eqb-true bits limits.bits t.0)); fits = leb-true count limits.words t.1 })

temps_goes : (limits : Limits) (count temps : ℕ) (next : Front) → FrontFits limits (Sized count) → temps < 2 ^ 32 → Some (Open count (opened limits temps)) ≡ Some next → Goes limits (Sized count) (Temps temps) next
temps_goes limits count temps next h f e =
    subst (Goes limits (Sized count) (Temps temps)) (same_Some (Open count (opened limits temps)) next e)
    (record { items = refl; fits = (h, omega arith, record { bits = refl; few = omega arith; temps = f; places = tt; costs = tt; marks = tt; in_order = tt; words = tt }) })

pub step_goes : (limits : Limits) (front : Front) (item : Item) (next : Front) → FrontFits limits front → IsSayable item → step limits front item ≡ Some next → Goes limits front item next
unfolding step after_nothing after_size with_item
step_goes limits Nothing (Size bits count) next h s e = size_goes limits bits count next e
step_goes limits Nothing (Temps temps) next h s e = absurd cc
step_goes limits Nothing (Variable place) next h s e = absurd cc
step_goes limits Nothing (Tree cost) next h s e = absurd cc
step_goes limits Nothing (Label mark) next h s e = absurd cc
step_goes limits Nothing (Code address code) next h s e = absurd cc
step_goes limits Nothing Done next h s e = absurd cc
step_goes limits (Sized n) (Size bits count) next h s e = absurd cc
step_goes limits (Sized n) (Temps temps) next h s e = temps_goes limits n temps next h s e
step_goes limits (Sized n) (Variable place) next h s e = absurd cc
step_goes limits (Sized n) (Tree cost) next h s e = absurd cc
step_goes limits (Sized n) (Label mark) next h s e = absurd cc
step_goes limits (Sized n) (Code address code) next h s e = absurd cc
step_goes limits (Sized n) Done next h s e = absurd cc
step_goes limits (Open n image) (Size bits count) next h s e = absurd cc
step_goes limits (Open n image) (Temps temps) next h s e = absurd cc
step_goes limits (Open n image) (Variable place) next h s e = place_goes limits n image place next h s e
step_goes limits (Open n image) (Tree cost) next h s e = cost_goes limits n image cost next h (record { tree = s.0; cost = s.1 }) e
step_goes limits (Open n image) (Label mark) next h s e = mark_goes limits n image mark next h s e
step_goes limits (Open n image) (Code address code) next h s e = code_goes limits n image address code next h s.1 e
step_goes limits (Open n image) Done next h s e = whole_goes limits n image next h e
step_goes limits (Whole image) item next h s e = absurd cc
