-- A line that is read says what it is read as, and a line that says something is read as that.
use Rattle.std.proofs.Common.{◌≡◌, ◌==◌, ℕ, ◌+◌, ◌^◌, ◌<◌, ◌≤◌, List, [], ◌∷◌, ◌++◌, length, Bool, true, false, cond, Option, Some, None, refl, sym, ap, subst, ◌∙◌, eq-eqb, eqb-true, arith}
use Rattle.std.proofs.lemmas.List.{append-nil}
use Rattle.std.proofs.lemmas.Option.{some_pair_parts, cond_some, same_Some}
use Rattle.std.proofs.lemmas.Bool.{ltb-true, ltb-false, lt-ltb, le-ltb}
use Rattle.std.specs.Prelude.{nat_lt, codes, map}
use Rattle.std.specs.List.{flat_map}
use Rattle.std.specs.Str.{bytes_eq}
use Rattle.std.proofs.lemmas.Slice.Eq.{bytes_eq-Decides}
use Rattle.std.specs.Fmt.{decimal}
use Rattle.code_model.specs.declared.image.Mark.{Mark}
use Rattle.code_model.specs.declared.image.Place.{Place}
use Rattle.code_model.specs.declared.image.Word.{Word}
use Rattle.code_model.specs.ImageFits.{AscendFrom, LabelFits, PlaceFits, MarkFits}
use Rattle.code_model.specs.ImageText.{after_comma, numbers_text, label_text, place_line, cost_line, mark_line, word_line}
use Rattle.text_lines.specs.Digits.{hex_of}
use Rattle.text_lines.specs.Fields.{parts_at, number_of, is_name, ◌>>=◌, only_front, line_end}
use Rattle.lexing.specs.Bytes.{is_digit}
use Rattle.text_lines.specs.Lines.{longer_line}
use Rattle.text_lines.proofs.Ends.{end_is, end_again}
use Rattle.text_lines.proofs.Parts.{Avoids, parts_are, parts_again, avoids-append}
use Rattle.text_lines.proofs.Numbers.{number_is, number_again, avoids-decimal, avoids-name}
use Rattle.image_items.proofs.Lists.{fields_cut, fields_last}
use Rattle.std.proofs.lemmas.Fmt.{decimal_nonempty}
use Rattle.image_items.specs.declared.item.Item.{Item}
use Rattle.image_items.specs.declared.item.Item.TheVariants.{Size, Temps, Variable, Tree, Label, Code, Done}
use Rattle.image_items.specs.Inner.Items.{item_line, size_line, temps_line, IsSayable, IsWithin}
use Rattle.image_items.specs.Reading.{below_2_32, small, number_before, last_number, pair_of, label_of, number_from, numbers_from, fields_of, list_of, place_parts, place_item, size_item, temps_item, tree_item, mark_item, word_parts, word_item, word_in, said_by, item_of}
use Rattle.image_items.proofs.Digits.{word_in_is, word_in_again, hex_avoids}
use Rattle.text_lines.proofs.Steps.{bind_ok, bind_again}

-- ---- numbers

below_is : (m n : ℕ) → below_2_32 m ≡ Some n → (m ≡ n) × (n < 2 ^ 32)
below_is m n e =
    let p = cond_some (nat_lt m (2 ^ 32)) m n e in
    (p.1, rw (← p.1) (ltb-true m (2 ^ 32) p.0))

below_again : (n : ℕ) → n < 2 ^ 32 → below_2_32 n ≡ Some n
below_again n h = ap (λ t. cond t (Some n) None) (lt-ltb n (2 ^ 32) h)

pub small_is : (text : List ℕ) (n : ℕ) → small text ≡ Some n → (text ≡ decimal n) × (n < 2 ^ 32)
unfolding small
small_is text n e =
    let b = bind_ok (number_of text) below_2_32 n e in
    let p = below_is b.value n b.then in
    let q = number_is text b.value b.first in
    (rw p.0 at q.0, p.1)

pub small_again : (n : ℕ) → n < 2 ^ 32 → small (decimal n) ≡ Some n
unfolding small
small_again n h = bind_again (number_of (decimal n)) below_2_32 n (Some n) (number_again n (omega arith)) (below_again n h)

-- what stands before a mark
pub record BeforeIs (mark : ℕ) (text : List ℕ) (n : ℕ) (rest : List ℕ) : Type 0 where
  pub text_is : text ≡ decimal n ++ (mark ∷ rest)
  pub fits : n < 2 ^ 32

pub before_is : (mark : ℕ) (text : List ℕ) (n : ℕ) (rest : List ℕ) → number_before mark text ≡ Some (n, rest) → BeforeIs mark text n rest
unfolding number_before
before_is mark text n rest e =
    let b = bind_ok (parts_at mark text) _ (n, rest) e in
    let d = bind_ok (small b.value.0) _ (n, rest) b.then in
    let p = some_pair_parts d.value n b.value.1 rest d.then in
    let s = small_is b.value.0 d.value d.first in
    let whole : text ≡ b.value.0 ++ (mark ∷ b.value.1) = parts_are mark text b.value.0 b.value.1 b.first in
    record {
      text_is = whole ∙ ap (λ f. f ++ (mark ∷ b.value.1)) (s.0 ∙ ap decimal p.0) ∙ ap (λ r. decimal n ++ (mark ∷ r)) p.1;
      fits = omega (arith, p.0, s.1);
    }

pub before_again : (mark n : ℕ) (rest : List ℕ) → Avoids mark (decimal n) → n < 2 ^ 32 → number_before mark (decimal n ++ (mark ∷ rest)) ≡ Some (n, rest)
unfolding number_before
before_again mark n rest out h =
    bind_again (parts_at mark (decimal n ++ (mark ∷ rest))) _ (decimal n, rest) (Some (n, rest)) (parts_again mark (decimal n) rest out)
    (bind_again (small (decimal n)) _ n (Some (n, rest)) (small_again n h) refl)

pub last_is : (text : List ℕ) (n : ℕ) → last_number text ≡ Some n → (text ≡ decimal n ++ (10 ∷ [])) × (n < 2 ^ 32)
unfolding last_number
last_is text n e =
    let b = bind_ok (line_end text) small n e in
    let p = small_is b.value n b.then in
    let q = end_is text b.value b.first in
    (rw p.0 at q, p.1)

pub digits_avoid : (mark n : ℕ) → n < 2 ^ 32 → (is_digit mark ≡ false) → Avoids mark (decimal n)
digits_avoid mark n h out = avoids-decimal mark n out (omega arith)

last_again : (n : ℕ) → n < 2 ^ 32 → last_number (decimal n ++ (10 ∷ [])) ≡ Some n
unfolding last_number
last_again n h = bind_again (line_end (decimal n ++ (10 ∷ []))) small (decimal n) (Some n) (end_again (decimal n) (digits_avoid 10 n h refl)) (small_again n h)

record PairIs (text : List ℕ) (pair : ℕ × ℕ) : Type 0 where
  pub text_is : text ≡ decimal pair.0 ++ (32 ∷ (decimal pair.1 ++ (10 ∷ [])))
  pub first : pair.0 < 2 ^ 32
  pub second : pair.1 < 2 ^ 32

pair_is : (text : List ℕ) (pair : ℕ × ℕ) → pair_of text ≡ Some pair → PairIs text pair
unfolding pair_of
pair_is text pair e =
    let b = bind_ok (number_before 32 text) _ pair e in
    let d = bind_ok (last_number b.value.1) _ pair b.then in
    let p = some_pair_parts b.value.0 pair.0 d.value pair.1 d.then in
    let front = before_is 32 text b.value.0 b.value.1 b.first in
    let back = last_is b.value.1 d.value d.first in
    record {
      text_is = front.text_is ∙ ap (λ r. decimal b.value.0 ++ (32 ∷ r)) back.0 ∙ ap (λ n. decimal n ++ (32 ∷ (decimal d.value ++ (10 ∷ [])))) p.0 ∙ ap (λ n. decimal pair.0 ++ (32 ∷ (decimal n ++ (10 ∷ [])))) p.1;
      first = omega (arith, p.0, front.fits);
      second = omega (arith, p.1, back.1);
    }

pair_again : (pair : ℕ × ℕ) → pair.0 < 2 ^ 32 → pair.1 < 2 ^ 32 → pair_of (decimal pair.0 ++ (32 ∷ (decimal pair.1 ++ (10 ∷ [])))) ≡ Some pair
unfolding pair_of
pair_again pair h k =
    bind_again (number_before 32 (decimal pair.0 ++ (32 ∷ (decimal pair.1 ++ (10 ∷ []))))) _ (pair.0, decimal pair.1 ++ (10 ∷ [])) (Some pair) (before_again 32 pair.0 _ (digits_avoid 32 pair.0 h refl) h)
    (bind_again (last_number (decimal pair.1 ++ (10 ∷ []))) _ pair.1 (Some pair) (last_again pair.1 k) refl)

-- ---- labels

pub same_text : (xs ys : List ℕ) → bytes_eq xs ys ≡ true → xs ≡ ys
same_text xs ys e = (bytes_eq-Decides xs ys).0 e

pub other_text : (xs ys : List ℕ) → (xs ≡ ys → ⊥) → bytes_eq xs ys ≡ false
other_text xs ys h = step (bytes_eq xs ys) (same_text xs ys)
  where
    step : (t : Bool) → (t ≡ true → xs ≡ ys) → t ≡ false
    step true f = absurd (h (f refl))
    step false f = refl

label_step : (text : List ℕ) (label : Option ℕ) (t : Bool) → bytes_eq text (codes "end") ≡ t → cond t (Some None) (small text >>= λ n. Some (Some n)) ≡ Some label → (text ≡ label_text label) × LabelFits label
label_step text None true t e = (same_text text (codes "end") t, tt)
label_step text (Some n) true t e = absurd cc
label_step text None false t e = let b = bind_ok (small text) _ None e in absurd (let f : Some b.value ≡ None = same_Some (Some b.value) None b.then in cc)
label_step text (Some n) false t e =
    let b = bind_ok (small text) _ (Some n) e in
    let f : Some b.value ≡ Some n = same_Some (Some b.value) (Some n) b.then in
    let g : b.value ≡ n = same_Some b.value n f in
    let s = small_is text b.value b.first in
    (s.0 ∙ ap decimal g, omega (arith, g, s.1))

pub label_is : (text : List ℕ) (label : Option ℕ) → label_of text ≡ Some label → (text ≡ label_text label) × LabelFits label
unfolding label_of
label_is text label e = label_step text label (bytes_eq text (codes "end")) refl e

not_end : (ds : List ℕ) → Avoids 101 ds → ds ≡ codes "end" → ⊥
not_end ds h e = let k : Avoids 101 (codes "end") = subst (Avoids 101) e h in let f : true ≡ false = k.0 in cc

pub label_again : (label : Option ℕ) → LabelFits label → label_of (label_text label) ≡ Some label
unfolding label_of
label_again None h = refl
label_again (Some n) h =
    rw (other_text (decimal n) (codes "end") (not_end (decimal n) (digits_avoid 101 n h refl)))
    (bind_again (small (decimal n)) _ n (Some (Some n)) (small_again n h) refl)

pub label_avoids : (label : Option ℕ) → LabelFits label → Avoids 10 (label_text label)
label_avoids None h = (refl, (refl, (refl, tt)))
label_avoids (Some n) h = digits_avoid 10 n h refl

-- ---- lists of patterns

number_from_is : (from n : ℕ) (field : List ℕ) → number_from from field ≡ Some n → (field ≡ decimal n) × (from ≤ n) × (n < 2 ^ 32)
unfolding number_from
number_from_is from n field e =
    let b = bind_ok (small field) _ n e in
    let s = small_is field b.value b.first in
    let p = step (nat_lt b.value from) b.value refl b.then in
    (s.0 ∙ ap decimal p.1, omega (arith, p.0, p.1, ltb-false b.value from p.0), omega (arith, p.1, s.1))
  where
    step : (t : Bool) (m : ℕ) → t ≡ t → cond t None (Some m) ≡ Some n → (t ≡ false) × (m ≡ n)
    step true m q e = absurd cc
    step false m q e = (refl, same_Some m n e)

number_from_again : (from n : ℕ) → from ≤ n → n < 2 ^ 32 → number_from from (decimal n) ≡ Some n
unfolding number_from
number_from_again from n h k = bind_again (small (decimal n)) _ n (Some n) (small_again n k) (ap (λ t. cond t None (Some n)) (le-ltb n from h))

numbers_is : (from : ℕ) (fields : List (List ℕ)) (ns : List ℕ) → numbers_from from fields ≡ Some ns → (fields ≡ map decimal ns) × AscendFrom from ns
unfolding numbers_from
numbers_is from [] ns e = let q : [] ≡ ns = same_Some [] ns e in rw (← q) (refl, tt)
numbers_is from (field ∷ fields) ns e =
    let b = bind_ok (number_from from field) _ ns e in
    let d = bind_ok (numbers_from (b.value + 1) fields) _ ns b.then in
    let q : (b.value ∷ d.value) ≡ ns = same_Some (b.value ∷ d.value) ns d.then in
    let first = number_from_is from b.value field b.first in
    let more = numbers_is (b.value + 1) fields d.value d.first in
    let P : List ℕ → Type 0 = λ ns. ((field ∷ fields) ≡ map decimal ns) × AscendFrom from ns in
    subst P q (ap (λ f. f ∷ fields) first.0 ∙ ap (λ fs. decimal b.value ∷ fs) more.0, (first.1, first.2, more.1))

numbers_again : (from : ℕ) (ns : List ℕ) → AscendFrom from ns → numbers_from from (map decimal ns) ≡ Some ns
unfolding numbers_from
numbers_again from [] h = refl
numbers_again from (n ∷ ns) h =
    bind_again (number_from from (decimal n)) _ n (Some (n ∷ ns)) (number_from_again from n h.0 h.1)
    (bind_again (numbers_from (n + 1) (map decimal ns)) _ ns (Some (n ∷ ns)) (numbers_again (n + 1) ns h.2) refl)

-- fields with marks between
abbrev joined : ℕ → List (List ℕ) → List ℕ
joined mark [] = []
joined mark (f ∷ fs) = f ++ flat_map (λ g. mark ∷ g) fs

some_fields : (mark : ℕ) (bs : List ℕ) → fields_of mark bs ≡ [] → ⊥
unfolding fields_of
some_fields mark [] e = cc
some_fields mark (b ∷ bs) e = step (b == mark) (fields_of mark bs) e
  where
    step : (t : Bool) (fs : List (List ℕ)) → cond t ([] ∷ fs) (longer_line b fs) ≡ [] → ⊥
    step true fs e = cc
    step false [] e = cc
    step false (f ∷ fs) e = cc

fields_joined : (mark : ℕ) (text : List ℕ) → joined mark (fields_of mark text) ≡ text
unfolding fields_of
fields_joined mark [] = refl
fields_joined mark (b ∷ bs) = step (b == mark) refl (fields_of mark bs) (some_fields mark bs) (fields_joined mark bs)
  where
    step : (t : Bool) → (b == mark) ≡ t → (fs : List (List ℕ)) → (fs ≡ [] → ⊥) → joined mark fs ≡ bs → joined mark (cond t ([] ∷ fs) (longer_line b fs)) ≡ b ∷ bs
    step true q [] some e = absurd (some refl)
    step true q (f ∷ fs) some e = ap (λ r. mark ∷ r) e ∙ ap (λ m. m ∷ bs) (sym (eqb-true b mark q))
    step false q [] some e = absurd (some refl)
    step false q (f ∷ fs) some e = ap (λ r. b ∷ r) e

commas : (ns : List ℕ) → flat_map (λ (g : List ℕ). 44 ∷ g) (map decimal ns) ≡ flat_map after_comma ns
commas [] = refl
commas (n ∷ ns) = ap (λ r. (44 ∷ decimal n) ++ r) (commas ns)

no_part : (mark : ℕ) (x : List ℕ) → Avoids mark x → parts_at mark x ≡ None
unfolding parts_at
no_part mark [] h = refl
no_part mark (b ∷ bs) h = rw (h.0, no_part mark bs h.1) refl

fields_numbers : (from n : ℕ) (ns : List ℕ) → AscendFrom from (n ∷ ns) → fields_of 44 (decimal n ++ flat_map after_comma ns) ≡ map decimal (n ∷ ns)
fields_numbers from n [] h = rw append-nil (fields_last 44 (decimal n) (no_part 44 (decimal n) (digits_avoid 44 n h.1 refl)))
fields_numbers from n (m ∷ ns) h =
    fields_cut 44 (decimal n ++ (44 ∷ (decimal m ++ flat_map after_comma ns))) (decimal n) (decimal m ++ flat_map after_comma ns) (parts_again 44 (decimal n) _ (digits_avoid 44 n h.1 refl))
    ∙ ap (λ fs. decimal n ∷ fs) (fields_numbers (n + 1) m ns h.2)

no_dash : (ds rest : List ℕ) → Avoids 45 ds → 0 < length ds → ds ++ rest ≡ codes "-" → ⊥
no_dash [] rest h some e = omega arith
no_dash (d ∷ ds) rest h some e =
    let first : d ≡ 45 = ap first_byte e in
    let k : (d == 45) ≡ true = eq-eqb d 45 first in
    let f : true ≡ false = sym k ∙ h.0 in
    cc
  where
    first_byte : List ℕ → ℕ
    first_byte [] = 0
    first_byte (b ∷ bs) = b

list_step : (text ns : List ℕ) (t : Bool) → bytes_eq text (codes "-") ≡ t → cond t (Some []) (numbers_from 0 (fields_of 44 text)) ≡ Some ns → (text ≡ numbers_text ns) × AscendFrom 0 ns
list_step text ns true t e =
    let q : [] ≡ ns = same_Some [] ns e in
    let P : List ℕ → Type 0 = λ ns. (text ≡ numbers_text ns) × AscendFrom 0 ns in
    subst P q (same_text text (codes "-") t, tt)
list_step text ns false t e = spelled ns (numbers_is 0 (fields_of 44 text) ns e)
  where
    spelled : (ns : List ℕ) → (fields_of 44 text ≡ map decimal ns) × AscendFrom 0 ns → (text ≡ numbers_text ns) × AscendFrom 0 ns
    spelled [] p = absurd (some_fields 44 text p.0)
    spelled (n ∷ ns) p = (sym (fields_joined 44 text) ∙ ap (joined 44) p.0 ∙ ap (λ r. decimal n ++ r) (commas ns), p.1)

list_is : (text ns : List ℕ) → list_of text ≡ Some ns → (text ≡ numbers_text ns) × AscendFrom 0 ns
unfolding list_of
list_is text ns e = list_step text ns (bytes_eq text (codes "-")) refl e

list_again : (ns : List ℕ) → AscendFrom 0 ns → list_of (numbers_text ns) ≡ Some ns
unfolding list_of
list_again [] h = refl
list_again (n ∷ ns) h =
    rw (other_text (decimal n ++ flat_map after_comma ns) (codes "-") (no_dash (decimal n) (flat_map after_comma ns) (digits_avoid 45 n h.1 refl) (decimal_nonempty n (omega (arith, h.1)))))
    (ap (numbers_from 0) (fields_numbers 0 n ns h) ∙ numbers_again 0 (n ∷ ns) h)

more_avoid : (from : ℕ) (ns : List ℕ) → AscendFrom from ns → Avoids 10 (flat_map after_comma ns)
more_avoid from [] h = tt
more_avoid from (n ∷ ns) h = avoids-append 10 (44 ∷ decimal n) (flat_map after_comma ns) (refl, digits_avoid 10 n h.1 refl) (more_avoid (n + 1) ns h.2)

pub list_avoids : (ns : List ℕ) → AscendFrom 0 ns → Avoids 10 (numbers_text ns)
list_avoids [] h = (refl, tt)
list_avoids (n ∷ ns) h = avoids-append 10 (decimal n) (flat_map after_comma ns) (digits_avoid 10 n h.1 refl) (more_avoid (n + 1) ns h.2)

-- ---- lines by their keywords

-- what a line says after its keyword and a space
record SaysAfter (bytes : ℕ) (keyword text : List ℕ) (item : Item) : Type 0 where
  pub line_is : keyword ++ (32 ∷ text) ≡ item_line bytes item
  pub sayable : IsSayable item

size_is : (bytes : ℕ) (text : List ℕ) (item : Item) → size_item text ≡ Some item → SaysAfter bytes (codes "image") text item
unfolding size_item
size_is bytes text item e =
    let b = bind_ok (pair_of text) _ item e in
    let p = pair_is text b.value b.first in
    subst (SaysAfter bytes (codes "image") text) (same_Some (Size b.value.0 b.value.1) item b.then)
    (record { line_is = ap (λ r. codes "image " ++ r) p.text_is; sayable = (p.first, p.second) })

temps_is : (bytes : ℕ) (text : List ℕ) (item : Item) → temps_item text ≡ Some item → SaysAfter bytes (codes "temps") text item
unfolding temps_item
temps_is bytes text item e =
    let b = bind_ok (last_number text) _ item e in
    let p = last_is text b.value b.first in
    subst (SaysAfter bytes (codes "temps") text) (same_Some (Temps b.value) item b.then)
    (record { line_is = ap (λ r. codes "temps " ++ r) p.0; sayable = p.1 })

tree_is : (bytes : ℕ) (text : List ℕ) (item : Item) → tree_item text ≡ Some item → SaysAfter bytes (codes "tree") text item
unfolding tree_item
tree_is bytes text item e =
    let b = bind_ok (pair_of text) _ item e in
    let p = pair_is text b.value b.first in
    subst (SaysAfter bytes (codes "tree") text) (same_Some (Tree b.value) item b.then)
    (record { line_is = ap (λ r. codes "tree " ++ r) p.text_is; sayable = (p.first, p.second) })

mark_is : (bytes : ℕ) (text : List ℕ) (item : Item) → mark_item text ≡ Some item → SaysAfter bytes (codes "mark") text item
unfolding mark_item
mark_is bytes text item e =
    let b = bind_ok (number_before 32 text) _ item e in
    let d = bind_ok (line_end b.value.1) _ item b.then in
    let f = bind_ok (label_of d.value) _ item d.then in
    let front = before_is 32 text b.value.0 b.value.1 b.first in
    let back = end_is b.value.1 d.value d.first in
    let label = label_is d.value f.value f.first in
    subst (SaysAfter bytes (codes "mark") text) (same_Some (Label (record { address = b.value.0; label = f.value })) item f.then)
    (record {
      line_is = ap (λ r. codes "mark " ++ r) (front.text_is ∙ ap (λ r. decimal b.value.0 ++ (32 ∷ r)) (back ∙ ap (λ l. l ++ (10 ∷ [])) label.0));
      sayable = record { address = front.fits; label = label.1 };
    })

place_is : (bytes : ℕ) (text : List ℕ) (item : Item) → place_item text ≡ Some item → SaysAfter bytes (codes "place") text item
unfolding place_item place_parts
place_is bytes text item e =
    let a = bind_ok (place_parts text) _ item e in
    let b = bind_ok (parts_at 32 text) _ a.value a.first in
    let d = bind_ok (pair_of b.value.1) _ a.value b.then in
    let p = cond_some (is_name b.value.0) (b.value.0, d.value) a.value d.then in
    let front : text ≡ b.value.0 ++ (32 ∷ b.value.1) = parts_are 32 text b.value.0 b.value.1 b.first in
    let back = pair_is b.value.1 d.value d.first in
    let P : List ℕ × (ℕ × ℕ) → Type 0 = λ v. SaysAfter bytes (codes "place") text (Variable (record { name = v.0; address = v.1.0; len = v.1.1 })) in
    let said : P a.value = subst P p.1 (record {
      line_is = ap (λ r. codes "place " ++ r) (front ∙ ap (λ r. b.value.0 ++ (32 ∷ r)) back.text_is);
      sayable = record { name = p.0; address = back.first; len = back.second };
    }) in
    subst (SaysAfter bytes (codes "place") text) (same_Some (Variable (record { name = a.value.0; address = a.value.1.0; len = a.value.1.1 })) item a.then) said

word_is : (bytes : ℕ) (text : List ℕ) (item : Item) → bytes ≤ 8 → word_item bytes text ≡ Some item → SaysAfter bytes (codes "word") text item
unfolding word_item word_parts
word_is bytes text item few e =
    let a = bind_ok (word_parts bytes text) _ item e in
    let l = bind_ok (list_of a.value.2) _ item a.then in
    let b = bind_ok (number_before 32 text) _ a.value a.first in
    let d = bind_ok (parts_at 32 b.value.1) _ a.value b.then in
    let f = bind_ok (word_in bytes d.value.0) _ a.value d.then in
    let g = bind_ok (line_end d.value.1) _ a.value f.then in
    let front = before_is 32 text b.value.0 b.value.1 b.first in
    let middle : b.value.1 ≡ d.value.0 ++ (32 ∷ d.value.1) = parts_are 32 b.value.1 d.value.0 d.value.1 d.first in
    let digits = word_in_is bytes d.value.0 f.value few f.first in
    let back = end_is d.value.1 g.value g.first in
    let P : ℕ × ℕ × List ℕ → Type 0 = λ v. (text ≡ decimal v.0 ++ (32 ∷ (hex_of bytes v.1 ++ (32 ∷ (v.2 ++ (10 ∷ [])))))) × (v.0 < 2 ^ 32) in
    let parts : P a.value = subst P (same_Some (b.value.0, f.value, g.value) a.value g.then)
    (front.text_is ∙ ap (λ r. decimal b.value.0 ++ (32 ∷ r)) (middle ∙ ap (λ r. d.value.0 ++ (32 ∷ r)) back ∙ ap (λ x. x ++ (32 ∷ (g.value ++ (10 ∷ [])))) digits), front.fits) in
    let list = list_is a.value.2 l.value l.first in
    subst (SaysAfter bytes (codes "word") text) (same_Some (Code a.value.0 (record { word = a.value.1; patterns = l.value })) item l.then)
    (record {
      line_is = ap (λ r. codes "word " ++ r) (parts.0 ∙ ap (λ r. decimal a.value.0 ++ (32 ∷ (hex_of bytes a.value.1 ++ (32 ∷ (r ++ (10 ∷ [])))))) list.0);
      sayable = (parts.1, list.1);
    })

if_text : (k word : List ℕ) (x y : Option Item) (item : Item) (P : Type 0) → cond (bytes_eq k word) x y ≡ Some item → (k ≡ word → x ≡ Some item → P) → (y ≡ Some item → P) → P
if_text k word x y item P e f g = step (bytes_eq k word) (same_text k word) e
  where
    step : (t : Bool) → (t ≡ true → k ≡ word) → cond t x y ≡ Some item → P
    step true q e = f (q refl) e
    step false q e = g e

as_keyword : (bytes : ℕ) (k word text : List ℕ) (item : Item) → k ≡ word → SaysAfter bytes word text item → SaysAfter bytes k text item
as_keyword bytes k word text item e s = subst (λ w. SaysAfter bytes w text item) (sym e) s

said_is : (bytes : ℕ) (k text : List ℕ) (item : Item) → bytes ≤ 8 → said_by bytes k text ≡ Some item → SaysAfter bytes k text item
unfolding said_by
said_is bytes k text item few e =
    if_text k (codes "image") _ _ item _ e (λ q x. as_keyword bytes k (codes "image") text item q (size_is bytes text item x))
    (λ e1. if_text k (codes "temps") _ _ item _ e1 (λ q x. as_keyword bytes k (codes "temps") text item q (temps_is bytes text item x))
    (λ e2. if_text k (codes "place") _ _ item _ e2 (λ q x. as_keyword bytes k (codes "place") text item q (place_is bytes text item x))
    (λ e3. if_text k (codes "tree") _ _ item _ e3 (λ q x. as_keyword bytes k (codes "tree") text item q (tree_is bytes text item x))
    (λ e4. if_text k (codes "mark") _ _ item _ e4 (λ q x. as_keyword bytes k (codes "mark") text item q (mark_is bytes text item x))
    (λ e5. if_text k (codes "word") _ None item _ e5 (λ q x. as_keyword bytes k (codes "word") text item q (word_is bytes text item few x)) (λ e6. absurd cc))))))

-- what is read of a line is what it says
pub record Says (bytes : ℕ) (line : List ℕ) (item : Item) : Type 0 where
  pub line_is : line ≡ item_line bytes item
  pub sayable : IsSayable item

pub item_is : (bytes : ℕ) (line : List ℕ) (item : Item) → bytes ≤ 8 → item_of bytes line ≡ Some item → Says bytes line item
unfolding item_of
item_is bytes line item few e =
    if_text line (codes "done\n") (Some Done) _ item _ e
    (λ q x. subst (Says bytes line) (same_Some Done item x) (record { line_is = q; sayable = tt }))
    (λ f. let b = bind_ok (parts_at 32 line) _ item f in
    let s = said_is bytes b.value.0 b.value.1 item few b.then in
    record { line_is = parts_are 32 line b.value.0 b.value.1 b.first ∙ s.line_is; sayable = s.sayable })

-- ---- what a line says is read of it

keyword_again : (bytes : ℕ) (k text : List ℕ) (item : Item) → Avoids 32 k → (k ++ (32 ∷ text) ≡ codes "done\n" → ⊥) → said_by bytes k text ≡ Some item → item_of bytes (k ++ (32 ∷ text)) ≡ Some item
unfolding item_of
keyword_again bytes k text item out other e =
    rw (other_text (k ++ (32 ∷ text)) (codes "done\n") other) (bind_again (parts_at 32 (k ++ (32 ∷ text))) _ (k, text) (Some item) (parts_again 32 k text out) e)

abbrev first_byte : List ℕ → ℕ
first_byte [] = 0
first_byte (b ∷ bs) = b

size_again : (bytes bits count : ℕ) → bits < 2 ^ 32 → count < 2 ^ 32 → item_of bytes (size_line bits count) ≡ Some (Size bits count)
unfolding said_by size_item
size_again bytes bits count h k =
    let text = decimal bits ++ (32 ∷ (decimal count ++ (10 ∷ []))) in
    keyword_again bytes (codes "image") text (Size bits count) (refl, (refl, (refl, (refl, (refl, tt))))) (λ e. let q : 105 ≡ 100 = ap first_byte e in omega arith)
    (bind_again (pair_of text) _ (bits, count) (Some (Size bits count)) (pair_again (bits, count) h k) refl)

temps_again : (bytes temps : ℕ) → temps < 2 ^ 32 → item_of bytes (temps_line temps) ≡ Some (Temps temps)
unfolding said_by temps_item
temps_again bytes temps h =
    let text = decimal temps ++ (10 ∷ []) in
    keyword_again bytes (codes "temps") text (Temps temps) (refl, (refl, (refl, (refl, (refl, tt))))) (λ e. let q : 116 ≡ 100 = ap first_byte e in omega arith)
    (bind_again (last_number text) _ temps (Some (Temps temps)) (last_again temps h) refl)

tree_again : (bytes : ℕ) (cost : ℕ × ℕ) → cost.0 < 2 ^ 32 → cost.1 < 2 ^ 32 → item_of bytes (cost_line cost) ≡ Some (Tree cost)
unfolding said_by tree_item
tree_again bytes cost h k =
    let text = decimal cost.0 ++ (32 ∷ (decimal cost.1 ++ (10 ∷ []))) in
    keyword_again bytes (codes "tree") text (Tree cost) (refl, (refl, (refl, (refl, tt)))) (λ e. let q : 116 ≡ 100 = ap first_byte e in omega arith)
    (bind_again (pair_of text) _ cost (Some (Tree cost)) (pair_again cost h k) refl)

mark_again : (bytes : ℕ) (mark : Mark) → MarkFits mark → item_of bytes (mark_line mark) ≡ Some (Label mark)
unfolding said_by mark_item
mark_again bytes mark h =
    let back = label_text mark.label ++ (10 ∷ []) in
    let text = decimal mark.address ++ (32 ∷ back) in
    keyword_again bytes (codes "mark") text (Label mark) (refl, (refl, (refl, (refl, tt)))) (λ e. let q : 109 ≡ 100 = ap first_byte e in omega arith)
    (bind_again (number_before 32 text) _ (mark.address, back) (Some (Label mark)) (before_again 32 mark.address back (digits_avoid 32 mark.address h.address refl) h.address)
    (bind_again (line_end back) _ (label_text mark.label) (Some (Label mark)) (end_again (label_text mark.label) (label_avoids mark.label h.label))
    (bind_again (label_of (label_text mark.label)) _ mark.label (Some (Label mark)) (label_again mark.label h.label) refl)))

place_again : (bytes : ℕ) (place : Place) → PlaceFits place → item_of bytes (place_line place) ≡ Some (Variable place)
unfolding said_by place_item place_parts
place_again bytes place h =
    let pair : ℕ × ℕ = (place.address, place.len) in
    let back = decimal place.address ++ (32 ∷ (decimal place.len ++ (10 ∷ []))) in
    let text = place.name ++ (32 ∷ back) in
    keyword_again bytes (codes "place") text (Variable place) (refl, (refl, (refl, (refl, (refl, tt))))) (λ e. let q : 112 ≡ 100 = ap first_byte e in omega arith)
    (bind_again (place_parts text) _ (place.name, pair) (Some (Variable place))
    (bind_again (parts_at 32 text) _ (place.name, back) (Some (place.name, pair)) (parts_again 32 place.name back (avoids-name 32 place.name refl h.name))
    (bind_again (pair_of back) _ pair (Some (place.name, pair)) (pair_again pair h.address h.len) (rw h.name refl)))
    refl)

code_again : (bytes address : ℕ) (word : Word) → bytes ≤ 8 → address < 2 ^ 32 → AscendFrom 0 word.patterns → word.word < 256 ^ bytes → item_of bytes (word_line bytes address word) ≡ Some (Code address word)
unfolding said_by word_item word_parts
code_again bytes address word few h list fits =
    let last = numbers_text word.patterns ++ (10 ∷ []) in
    let back = hex_of bytes word.word ++ (32 ∷ last) in
    let text = decimal address ++ (32 ∷ back) in
    let parts : ℕ × ℕ × List ℕ = (address, word.word, numbers_text word.patterns) in
    keyword_again bytes (codes "word") text (Code address word) (refl, (refl, (refl, (refl, tt)))) (λ e. let q : 119 ≡ 100 = ap first_byte e in omega arith)
    (bind_again (word_parts bytes text) _ parts (Some (Code address word))
    (bind_again (number_before 32 text) _ (address, back) (Some parts) (before_again 32 address back (digits_avoid 32 address h refl) h)
    (bind_again (parts_at 32 back) _ (hex_of bytes word.word, last) (Some parts) (parts_again 32 (hex_of bytes word.word) last (hex_avoids bytes word.word))
    (bind_again (word_in bytes (hex_of bytes word.word)) _ word.word (Some parts) (word_in_again bytes word.word few fits)
    (bind_again (line_end last) _ (numbers_text word.patterns) (Some parts) (end_again (numbers_text word.patterns) (list_avoids word.patterns list)) refl))))
    (bind_again (list_of (numbers_text word.patterns)) _ word.patterns (Some (Code address word)) (list_again word.patterns list) refl))

pub item_again : (bytes : ℕ) (item : Item) → bytes ≤ 8 → IsSayable item → IsWithin bytes item → item_of bytes (item_line bytes item) ≡ Some item
unfolding item_of
item_again bytes (Size bits count) few h w = size_again bytes bits count h.0 h.1
item_again bytes (Temps temps) few h w = temps_again bytes temps h
item_again bytes (Variable place) few h w = place_again bytes place h
item_again bytes (Tree cost) few h w = tree_again bytes cost h.0 h.1
item_again bytes (Label mark) few h w = mark_again bytes mark h
item_again bytes (Code address word) few h w = code_again bytes address word few h.0 h.1 w
item_again bytes Done few h w = refl
