-- Scans, one item further and at the end.
use Rattle.std.proofs.Common.{◌≡◌, ℕ, ◌+◌, ◌<◌, Bool, true, false, ◌||◌, List, ◌∷◌, ◌++◌, length, map, drop, get_or, Option, Some, None, is_some, refl, sym, ap, ◌∙◌}
use Rattle.std.specs.Map.{lookup}
use Rattle.rec_bits.specs.Faults.{lesser_offset, least, offsets_if, gather}
use Rattle.rec_bits.proofs.Faults.{drop_item, least_append, sooner_assoc}
use Rattle.grammar.specs.declared.words.Ident.{Ident}
use Rattle.net_model.specs.declared.units.Unit.{Unit as Item}
use Rattle.net_model.specs.Written.{model_of_unit}
use Rattle.net_model.specs.TextNames.{own_name}
use Rattle.rec_bits.specs.Faults.{same_name}
use Rattle.net_model.specs.NameRules.{is_among, repeated}
use Rattle.net_names.specs.Places.{entered, Enters}
use Rattle.net_rules.specs.Inner.Scans.{HasSeen, Repeating}

-- ---- repeated names

entered_known : (found : Option ℕ) (same : Bool) (place : ℕ) → is_some (entered found same place) ≡ (same || is_some found)
entered_known (Some first) true place = refl
entered_known (Some first) false place = refl
entered_known None true place = refl
entered_known None false place = refl

pub seen_more : (old new : List (List ℕ × ℕ)) (own : List ℕ) (names : List (List ℕ)) → Enters old new own 0 → HasSeen old names → HasSeen new (own ∷ names)
seen_more old new own names enters h = λ name.
    ap is_some (enters name) ∙ entered_known (lookup (same_name name) old) (same_name own name) 0 ∙ ap (λ b. same_name own name || b) (h name)

pub repeating_next : (old new : List (List ℕ × ℕ)) (found : Option ℕ) (rest after : List Ident) (all : Option ℕ) (name : Ident) → rest ≡ name ∷ after
    → Enters old new name.name 0 → Repeating old found rest all
    → Repeating new (lesser_offset found (least (offsets_if (is_some (lookup (same_name name.name) old)) name.at))) after all
repeating_next old new found rest after all name parts enters h = record {
  names = name.name ∷ h.names;
  seen = seen_more old new name.name h.names enters h.seen;
  all_is =
      ap (λ b. lesser_offset (lesser_offset found (least (offsets_if b name.at))) (least (repeated (name.name ∷ h.names) after))) (h.seen name.name)
      ∙ sooner_assoc found (least (offsets_if (is_among h.names name.name) name.at)) (least (repeated (name.name ∷ h.names) after))
      ∙ ap (lesser_offset found) (sym (least_append (offsets_if (is_among h.names name.name) name.at) (repeated (name.name ∷ h.names) after)))
      ∙ ap (λ names. lesser_offset found (least (repeated h.names names))) (sym parts)
      ∙ h.all_is;
}

-- ---- lists of which each item is seen as something

module _ {A B : Type 0} (f : B → List ℕ) (view : A → B) (items : List A) (i : ℕ) where
  pub gathered_next : (item : A) (found all : Option ℕ) → i < length items → item ≡ get_or items i item
      → lesser_offset found (least (gather f (map view (drop i items)))) ≡ all → lesser_offset (lesser_offset found (least (f (view item)))) (least (gather f (map view (drop (i + 1) items)))) ≡ all
  gathered_next item found all h is k =
      sooner_assoc found (least (f (view item))) (least (gather f (map view (drop (i + 1) items))))
      ∙ ap (lesser_offset found) (sym (least_append (f (view item)) (gather f (map view (drop (i + 1) items)))))
      ∙ ap (λ (xs : List A). lesser_offset found (least (gather f (map view xs)))) (sym (drop_item items i item h is))
      ∙ k

pub own_names_from : (items : List Item) (i : ℕ) (item : Item) (name : Ident) → i < length items → item ≡ get_or items i item → name ≡ own_name (model_of_unit item)
    → map own_name (map model_of_unit (drop i items)) ≡ name ∷ map own_name (map model_of_unit (drop (i + 1) items))
own_names_from items i item name h is own =
    ap (λ (xs : List Item). map own_name (map model_of_unit xs)) (drop_item items i item h is)
    ∙ ap (λ (n : Ident). n ∷ map own_name (map model_of_unit (drop (i + 1) items))) (sym own)

-- ---- lists of offsets

pub least_three : (a b c : List ℕ) → least (a ++ b ++ c) ≡ lesser_offset (lesser_offset (least a) (least b)) (least c)
least_three a b c = least_append (a ++ b) c ∙ ap (λ o. lesser_offset o (least c)) (least_append a b)

pub scanned_next : (found : Option ℕ) (rest front after : List ℕ) (all : Option ℕ) → rest ≡ front ++ after → lesser_offset found (least rest) ≡ all
    → lesser_offset (lesser_offset found (least front)) (least after) ≡ all
scanned_next found rest front after all parts k =
    sooner_assoc found (least front) (least after) ∙ ap (lesser_offset found) (sym (least_append front after) ∙ ap least (sym parts)) ∙ k
