-- A look-up in a list with one entry more.
use Rattle.std.proofs.Common.{◌≡◌, Bool, true, false, cond, is_some, List, [], ◌∷◌, ◌++◌, Option, Some, None, refl}
use Rattle.std.specs.Map.{lookup}

-- the first of two, if it is there
abbrev pub later : {A : Type 0} → Option A → Option A → Option A
later None o = o
later (Some a) o = Some a

pub later_there : {A : Type 0} (a b : Option A) → is_some a ≡ true → later a b ≡ a
later_there (Some a) b e = refl
later_there None b e = absurd (cc e)

pub later_none : {A : Type 0} (a : Option A) → later a None ≡ a
later_none None = refl
later_none (Some x) = refl

pub lookup_append : {K X : Type 0} (test : K → Bool) (entries : List (K × X)) (e : K × X) → lookup test (entries ++ e ∷ []) ≡ later (lookup test entries) (cond (test e.0) (Some e.1) None)
lookup_append test [] e = refl
lookup_append test (d ∷ entries) e = by (lookup_append test entries e) (test d.0)
  where
    by : lookup test (entries ++ e ∷ []) ≡ later (lookup test entries) (cond (test e.0) (Some e.1) None) → (b : Bool) → cond b (Some d.1) (lookup test (entries ++ e ∷ [])) ≡ later (cond b (Some d.1) (lookup test entries)) (cond (test e.0) (Some e.1) None)
    by more true = refl
    by more false = more
