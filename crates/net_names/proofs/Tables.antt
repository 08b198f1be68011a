-- Tables of names, with one more name.
use Rattle.std.proofs.Common.{◌≡◌, ℕ, ◌+◌, ◌<◌, Bool, true, false, not, cond, if◌then◌else◌, true≢false, is_some, List, [], ◌∷◌, drop, length, map, get_or, Option, Some, None, Bor, refl, sym, ap, subst, ◌∙◌, arith}
use Rattle.std.proofs.lemmas.List.{drop-map}
use Rattle.std.specs.Cmp.Lexicographic.{bytes_decides}
use Rattle.std.specs.Map.{lookup}
use Rattle.rec_bits.proofs.Faults.{drop_item}
use Rattle.rec_bits.specs.Faults.{same_name}
use Rattle.net_names.specs.Places.{name_pairs, entered, Enters, place_or, HasPlaces}

-- ---- entering a name

pub pairs_lookup : (name : List ℕ) (entries : List (Bor (List ℕ) × ℕ)) → lookup (λ (k : Bor (List ℕ)). same_name name k.now) entries ≡ lookup (same_name name) (name_pairs entries)
pairs_lookup name [] = refl
pairs_lookup name (e ∷ entries) = ap (λ found. cond (same_name name e.0.now) (Some e.1) found) (pairs_lookup name entries)

known : (found : Option ℕ) (same : Bool) (place : ℕ) → (same ≡ true → is_some found ≡ true) → found ≡ entered found same place
known (Some first) same place h = refl
known None true place h = absurd (true≢false (sym (h refl)))
known None false place h = refl

fresh : (found : Option ℕ) (same : Bool) (place : ℕ) → (same ≡ true → is_some found ≡ false) → cond same (Some place) found ≡ entered found same place
fresh (Some first) true place h = absurd (true≢false (h refl))
fresh (Some first) false place h = refl
fresh None true place h = refl
fresh None false place h = refl

found_so : (table : List (List ℕ × ℕ)) (own name : List ℕ) (found : Bool) → is_some (lookup (same_name own) table) ≡ found → same_name own name ≡ true → is_some (lookup (same_name name) table) ≡ found
found_so table own name found is same = ap (λ q. is_some (lookup (same_name q) table)) (sym ((bytes_decides own name).0 same)) ∙ is

pub enters_new : (old new : List (List ℕ × ℕ)) (own : List ℕ) (place : ℕ) → is_some (lookup (same_name own) old) ≡ false
    → ((name : List ℕ) → lookup (same_name name) new ≡ cond (same_name own name) (Some place) (lookup (same_name name) old)) → Enters old new own place
enters_new old new own place is updates =
    λ name. updates name ∙ fresh (lookup (same_name name) old) (same_name own name) place (found_so old own name false is)

-- ---- places, one name further

next_place : (found : Option ℕ) (same : Bool) (i behind : ℕ) → place_or (entered found same i) (i + 1) behind ≡ place_or found i (if same then 0 else behind + 1)
next_place (Some place) same i behind = refl
next_place None true i behind = omega arith
next_place None false i behind = omega arith

pub places_next : (old new : List (List ℕ × ℕ)) (own : List ℕ) (i : ℕ) (rest behind all : List ℕ → ℕ) → Enters old new own i
    → ((name : List ℕ) → rest name ≡ (if same_name own name then 0 else behind name + 1)) → HasPlaces old i rest all → HasPlaces new (i + 1) behind all
places_next old new own i rest behind all enters steps h = record {
  first = λ name.
      ap (λ found. place_or found (i + 1) (behind name)) (enters name)
      ∙ next_place (lookup (same_name name) old) (same_name own name) i (behind name)
      ∙ ap (λ n. place_or (lookup (same_name name) old) i n) (sym (steps name))
      ∙ h.first name;
}

-- the items of a list, seen as something, from one on
pub seen_from : {A B : Type 0} (view : A → B) (items seen : List A) (i : ℕ) (item : A) → seen ≡ items → i < length seen → item ≡ get_or seen i item
    → drop i (map view items) ≡ view item ∷ drop (i + 1) (map view items)
seen_from view items seen i item same h is =
    drop-map view i items
    ∙ ap (map view) (drop_item items i item (subst (λ (xs : List _). i < length xs) same h) (subst (λ (xs : List _). item ≡ get_or xs i item) same is))
    ∙ ap (λ (es : List _). view item ∷ es) (sym (drop-map view (i + 1) items))

-- what `is_none` says
pub none_there : (found : Option ℕ) (none : Bool) → is_some found ≡ not none → none ≡ true → is_some found ≡ false
none_there found none e h = e ∙ ap not h

-- and one item further that has no place in the table
skipped : (found : Option ℕ) (i behind : ℕ) → place_or found (i + 1) behind ≡ place_or found i (behind + 1)
skipped (Some place) i behind = refl
skipped None i behind = omega arith

pub places_skip : (table : List (List ℕ × ℕ)) (i : ℕ) (rest behind all : List ℕ → ℕ) → ((name : List ℕ) → rest name ≡ behind name + 1)
    → HasPlaces table i rest all → HasPlaces table (i + 1) behind all
places_skip table i rest behind all steps h = record {
  first = λ name.
      skipped (lookup (same_name name) table) i (behind name)
      ∙ ap (λ n. place_or (lookup (same_name name) table) i n) (sym (steps name))
      ∙ h.first name;
}
