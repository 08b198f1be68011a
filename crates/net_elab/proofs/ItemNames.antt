-- Storages and codes have different names where items have.
use Rattle.std.proofs.Common.{ℕ, ◌≡◌, ◌+◌, false, not, List, [], ◌∷◌, ◌++◌, map, refl, ◌∙◌, IsTrue}
use Rattle.std.specs.List.{AllByRecursion, IsDistinct}
use Rattle.net_model.specs.declared.hardware.Space.TheVariants.{Memory as InMemory, File as InFile}
use Rattle.net_model.specs.declared.hardware.Code.{Code}
use Rattle.net_model.specs.Nets.{storage_name}
use Rattle.net_model.specs.CheckedRules.{NamesDiffer}
use Rattle.net_model.specs.Written.{UnitModel, code, register, memory, net, bus, module_item, part}
use Rattle.net_model.specs.TextNames.{own_name}
use Rattle.rec_bits.specs.Faults.{same_name}
use Rattle.net_model.specs.Elaborable.{item_names}
use Rattle.net_model.specs.NameRules.{is_among}
use Rattle.net_model.specs.DriverRules.{names_new}
use Rattle.net_model.specs.Numbering.{count_item}
use Rattle.net_model.specs.Elaborated.{codes_from, netlist_in, storages_from}
use Rattle.rec_bits.proofs.Booleans.{and_left, and_right, not_true, left_false, right_false}
use Rattle.rec_bits.proofs.Equality.{number_turned}

abbrev code_name : Code → List ℕ
code_name made = made.name

-- no name of the list is this one
abbrev pub Fresh : List ℕ → List (List ℕ) → Type 0
Fresh name names = AllByRecursion (λ y. same_name name y ≡ false) names

same_sym : (a b : List ℕ) → same_name a b ≡ same_name b a
same_sym [] [] = refl
same_sym [] (y ∷ ys) = refl
same_sym (x ∷ xs) [] = refl
same_sym (x ∷ xs) (y ∷ ys) = rw (number_turned x y, same_sym xs ys) refl

fresh_from : (name : List ℕ) (before names : List (List ℕ)) → ((m : List ℕ) → is_among before m ≡ false → same_name name m ≡ false) → IsTrue (names_new before names) → Fresh name names
fresh_from name before [] f h = tt
fresh_from name before (n ∷ names) f h = (
  f n (not_true (is_among before n) (and_left (not (is_among before n)) (names_new (n ∷ before) names) h)),
  fresh_from name (n ∷ before) names (λ m e. f m (right_false (same_name n m) (is_among before m) e)) (and_right (not (is_among before n)) (names_new (n ∷ before) names) h),
)

fresh_append : (name : List ℕ) (xs ys : List (List ℕ)) → Fresh name xs → Fresh name ys → Fresh name (xs ++ ys)
fresh_append name [] ys h k = k
fresh_append name (x ∷ xs) ys h k = (h.0, fresh_append name xs ys h.1 k)

fresh_left : (name : List ℕ) (xs ys : List (List ℕ)) → Fresh name (xs ++ ys) → Fresh name xs
fresh_left name [] ys h = tt
fresh_left name (x ∷ xs) ys h = (h.0, fresh_left name xs ys h.1)

-- one more name in the middle
distinct_insert : (name : List ℕ) (xs ys : List (List ℕ)) → IsDistinct same_name (xs ++ ys) → Fresh name (xs ++ ys) → IsDistinct same_name (xs ++ name ∷ ys)
unfolding IsDistinct
distinct_insert name [] ys d f = (f, d)
distinct_insert name (x ∷ xs) ys d f = (fresh_more x xs ys d.0 (same_sym x name ∙ f.0), distinct_insert name xs ys d.1 f.1)
  where
    fresh_more : (x : List ℕ) (xs ys : List (List ℕ)) → Fresh x (xs ++ ys) → same_name x name ≡ false → Fresh x (xs ++ name ∷ ys)
    fresh_more x [] ys h e = (e, h)
    fresh_more x (z ∷ xs) ys h e = (h.0, fresh_more x xs ys h.1 e)

distinct_first : (name : List ℕ) (names : List (List ℕ)) → IsDistinct same_name names → Fresh name names → IsDistinct same_name (name ∷ names)
unfolding IsDistinct
distinct_first name names d f = (f, d)

distinct_none : IsDistinct same_name []
unfolding IsDistinct
distinct_none = tt

module _ (text : List UnitModel) where
  abbrev stored : ℕ → List UnitModel → List (List ℕ)
  stored start entries = map storage_name (storages_from text start entries)

  abbrev coded : List UnitModel → List (List ℕ)
  coded entries = map code_name (codes_from text entries)

  -- a name that no item has
  fresh_names : (name : List ℕ) (start : ℕ) (entries : List UnitModel) → Fresh name (item_names entries) → Fresh name (stored start entries) × Fresh name (coded entries)
  fresh_names name start [] h = (tt, tt)
  fresh_names name start (code own bits size counter ∷ entries) h = let r = fresh_names name (start + count_item text (code own bits size counter)) entries h.1 in (r.0, (h.0, r.1))
  fresh_names name start (register kind own width input when ∷ entries) h = let r = fresh_names name (start + count_item text (register kind own width input when)) entries h.1 in ((h.0, r.0), r.1)
  fresh_names name start (memory InMemory own width size addr_width value addr when ∷ entries) h =
      let r = fresh_names name (start + count_item text (memory InMemory own width size addr_width value addr when)) entries h.1 in ((h.0, r.0), r.1)
  fresh_names name start (memory InFile own width size addr_width value addr when ∷ entries) h =
      let r = fresh_names name (start + count_item text (memory InFile own width size addr_width value addr when)) entries h.1 in ((h.0, r.0), r.1)
  fresh_names name start (net own width value ∷ entries) h = fresh_names name (start + count_item text (net own width value)) entries h.1
  fresh_names name start (bus own width drivers ∷ entries) h = fresh_names name (start + count_item text (bus own width drivers)) entries h.1
  fresh_names name start (module_item own ports equations ∷ entries) h = fresh_names name (start + count_item text (module_item own ports equations)) entries h.1
  fresh_names name start (part own of links ∷ entries) h = fresh_names name (start + count_item text (part own of links)) entries h.1

  fresh_both : (name : List ℕ) (start : ℕ) (entries : List UnitModel) → Fresh name (item_names entries) → Fresh name (stored start entries ++ coded entries)
  fresh_both name start entries h = let r = fresh_names name start entries h in fresh_append name (stored start entries) (coded entries) r.0 r.1

  distinct_names : (start : ℕ) (before : List (List ℕ)) (entries : List UnitModel) → IsTrue (names_new before (item_names entries)) → IsDistinct same_name (stored start entries ++ coded entries)
  distinct_names start before [] h = distinct_none
  distinct_names start before (e ∷ entries) h =
      let k = and_right (not (is_among before (own_name e).name)) (names_new ((own_name e).name ∷ before) (item_names entries)) h in
      let f = fresh_from (own_name e).name ((own_name e).name ∷ before) (item_names entries) (λ m o. left_false (same_name (own_name e).name m) (is_among before m) o) k in
      more e start entries f (distinct_names (start + count_item text e) ((own_name e).name ∷ before) entries k)
    where
      more : (e : UnitModel) (start : ℕ) (entries : List UnitModel) → Fresh (own_name e).name (item_names entries) → IsDistinct same_name (stored (start + count_item text e) entries ++ coded entries)
          → IsDistinct same_name (stored start (e ∷ entries) ++ coded (e ∷ entries))
      more (code own bits size counter) start entries f d =
          distinct_insert own.name (stored (start + 1) entries) (coded entries) d (fresh_both own.name (start + 1) entries f)
      more (register kind own width input when) start entries f d =
          distinct_first own.name _ d (fresh_both own.name (start + count_item text (register kind own width input when)) entries f)
      more (memory InMemory own width size addr_width value addr when) start entries f d =
          distinct_first own.name _ d (fresh_both own.name (start + count_item text (memory InMemory own width size addr_width value addr when)) entries f)
      more (memory InFile own width size addr_width value addr when) start entries f d =
          distinct_first own.name _ d (fresh_both own.name (start + count_item text (memory InFile own width size addr_width value addr when)) entries f)
      more (net own width value) start entries f d = d
      more (bus own width drivers) start entries f d = d
      more (module_item own ports equations) start entries f d = d
      more (part own of links) start entries f d = d

pub names_differ : (edition : ℕ) (text : List UnitModel) → IsTrue (names_new [] (item_names text)) → NamesDiffer (netlist_in edition text)
names_differ edition text h = distinct_names text 0 [] text h
