-- Lists of numbers between commas.
use Rattle.std.proofs.Common.{◌≡◌, ◌==◌, ℕ, ◌+◌, List, [], ◌∷◌, ◌++◌, Bool, true, false, cond, Option, Some, None, refl, sym, ap, ◌∙◌, append_assoc}
use Rattle.std.proofs.lemmas.Option.{some_pair_parts}
use Rattle.std.specs.Prelude.{option_map}
use Rattle.text_lines.specs.Fields.{parts_at, longer_front, ◌>>=◌}
use Rattle.text_lines.specs.Lines.{longer_line}
use Rattle.image_items.specs.Reading.{number_from, numbers_from, fields_of}

pub fields_cut : (mark : ℕ) (bs x y : List ℕ) → parts_at mark bs ≡ Some (x, y) → fields_of mark bs ≡ x ∷ fields_of mark y
unfolding parts_at fields_of
fields_cut mark [] x y e = absurd cc
fields_cut mark (b ∷ bs) x y e = step (b == mark) (parts_at mark bs) (λ (u : List ℕ × List ℕ). fields_cut mark bs u.0 u.1) e
  where
    step : (test : Bool) → (o : Option (List ℕ × List ℕ)) → ((u : List ℕ × List ℕ) → o ≡ Some u → fields_of mark bs ≡ u.0 ∷ fields_of mark u.1) →
        cond test (Some ([], bs)) (option_map (longer_front b) o) ≡ Some (x, y) → cond test ([] ∷ fields_of mark bs) (longer_line b (fields_of mark bs)) ≡ x ∷ fields_of mark y
    step true o ih e =
        let p : ([] ≡ x) × (bs ≡ y) = some_pair_parts [] x bs y e in
        rw (← p.0) (rw (← p.1) refl)
    step false None ih e = absurd cc
    step false (Some u) ih e =
        let p : ((b ∷ u.0) ≡ x) × (u.1 ≡ y) = some_pair_parts (b ∷ u.0) x u.1 y e in
        rw (← p.0) (rw (← p.1) (ap (longer_line b) (ih u refl)))

fields_step : (b : ℕ) (bs : List ℕ) (test : Bool) (o : Option (List ℕ × List ℕ)) (fields : List (List ℕ)) → (o ≡ None → longer_line b fields ≡ (b ∷ bs) ∷ []) →
    cond test (Some ([], bs)) (option_map (longer_front b) o) ≡ None → cond test ([] ∷ fields) (longer_line b fields) ≡ (b ∷ bs) ∷ []
fields_step b bs true o fields h e = absurd cc
fields_step b bs false None fields h e = h refl
fields_step b bs false (Some u) fields h e = absurd cc

fields_longer : (mark b : ℕ) (bs : List ℕ) → parts_at mark bs ≡ None → longer_line b (fields_of mark bs) ≡ (b ∷ bs) ∷ []
unfolding parts_at fields_of
fields_longer mark b [] e = refl
fields_longer mark b (c ∷ cs) e = ap (longer_line b) (fields_step c cs (c == mark) (parts_at mark cs) (fields_of mark cs) (λ f. fields_longer mark c cs f) e)

pub fields_last : (mark : ℕ) (bs : List ℕ) → parts_at mark bs ≡ None → fields_of mark bs ≡ bs ∷ []
unfolding parts_at fields_of
fields_last mark [] e = refl
fields_last mark (b ∷ bs) e = fields_step b bs (b == mark) (parts_at mark bs) (fields_of mark bs) (λ f. fields_longer mark b bs f) e

-- numbers that were read before
abbrev pub with_front : List ℕ → Option (List ℕ) → Option (List ℕ)
with_front front o = o >>= λ more. Some (front ++ more)

front_twice : (front : List ℕ) (n : ℕ) (o : Option (List ℕ)) → with_front front (o >>= λ ns. Some (n ∷ ns)) ≡ with_front (front ++ (n ∷ [])) o
front_twice front n None = refl
front_twice front n (Some ns) = ap Some (sym (append_assoc front (n ∷ []) ns))

numbers_some : (from n : ℕ) (field : List ℕ) (fields : List (List ℕ)) → number_from from field ≡ Some n → numbers_from from (field ∷ fields) ≡ (numbers_from (n + 1) fields >>= λ ns. Some (n ∷ ns))
unfolding numbers_from
numbers_some from n field fields e = rw e refl

numbers_none : (from : ℕ) (field : List ℕ) (fields : List (List ℕ)) → number_from from field ≡ None → numbers_from from (field ∷ fields) ≡ None
unfolding numbers_from
numbers_none from field fields e = rw e refl

pub goes_on : (front rest field more : List ℕ) (from n : ℕ) (all : Option (List ℕ)) → all ≡ with_front front (numbers_from from (fields_of 44 rest)) →
    parts_at 44 rest ≡ Some (field, more) → number_from from field ≡ Some n → all ≡ with_front (front ++ (n ∷ [])) (numbers_from (n + 1) (fields_of 44 more))
goes_on front rest field more from n all so cut is =
    so ∙ ap (λ fs. with_front front (numbers_from from fs)) (fields_cut 44 rest field more cut)
    ∙ ap (with_front front) (numbers_some from n field (fields_of 44 more) is)
    ∙ front_twice front n (numbers_from (n + 1) (fields_of 44 more))

pub stops : (front rest field more : List ℕ) (from : ℕ) (all : Option (List ℕ)) → all ≡ with_front front (numbers_from from (fields_of 44 rest)) →
    parts_at 44 rest ≡ Some (field, more) → number_from from field ≡ None → None ≡ all
stops front rest field more from all so cut is =
    sym (so ∙ ap (λ fs. with_front front (numbers_from from fs)) (fields_cut 44 rest field more cut) ∙ ap (with_front front) (numbers_none from field (fields_of 44 more) is))

pub last_stops : (front rest : List ℕ) (from : ℕ) (all : Option (List ℕ)) → all ≡ with_front front (numbers_from from (fields_of 44 rest)) →
    parts_at 44 rest ≡ None → number_from from rest ≡ None → None ≡ all
last_stops front rest from all so cut is =
    sym (so ∙ ap (λ fs. with_front front (numbers_from from fs)) (fields_last 44 rest cut) ∙ ap (with_front front) (numbers_none from rest [] is))

pub last_ends : (front rest : List ℕ) (from n : ℕ) (all : Option (List ℕ)) → all ≡ with_front front (numbers_from from (fields_of 44 rest)) →
    parts_at 44 rest ≡ None → number_from from rest ≡ Some n → Some (front ++ (n ∷ [])) ≡ all
unfolding numbers_from
last_ends front rest from n all so cut is =
    sym (so ∙ ap (λ fs. with_front front (numbers_from from fs)) (fields_last 44 rest cut) ∙ ap (with_front front) (numbers_some from n rest [] is))

pub begins : (fields : List (List ℕ)) → numbers_from 0 fields ≡ with_front [] (numbers_from 0 fields)
begins fields = step (numbers_from 0 fields)
  where
    step : (o : Option (List ℕ)) → o ≡ with_front [] o
    step None = refl
    step (Some ns) = refl
