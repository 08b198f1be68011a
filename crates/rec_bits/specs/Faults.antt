-- Rules of a text: a rule is the list of the offsets at which it is broken, and what is named is
-- the least of them.
use Rattle.std.specs.Prelude.{ℕ, min, Bool, true, false, List, [], ◌∷◌, ◌++◌, Option, Some, None, nat_eq}
use Rattle.std.specs.Cmp.Lexicographic.{pointwise}

-- the lesser of two offsets that may be absent
abbrev pub lesser_offset : Option ℕ → Option ℕ → Option ℕ
lesser_offset None later = later
lesser_offset (Some a) None = Some a
lesser_offset (Some a) (Some b) = Some (min a b)

-- the least of a list, if there is one
abbrev pub least : List ℕ → Option ℕ
least [] = None
least (x ∷ xs) = lesser_offset (Some x) (least xs)

-- the offsets that the items of a list give, one item after the other
abbrev pub gather : {A : Type 0} → (A → List ℕ) → List A → List ℕ
gather f [] = []
gather f (x ∷ xs) = f x ++ gather f xs

-- the offset, where the rule is broken there
abbrev pub offsets_if : Bool → ℕ → List ℕ
offsets_if true at = at ∷ []
offsets_if false at = []

-- the earlier of two faults that may be absent
abbrev pub or_else : {F : Type 0} → Option F → Option F → Option F
or_else None later = later
or_else (Some fault) later = Some fault

-- the fault of a rule that is broken at an offset
abbrev pub fault_at : {F : Type 0} → (ℕ → F) → Option ℕ → Option F
fault_at rule None = None
fault_at rule (Some at) = Some (rule at)

-- whether two names are the same bytes
abbrev pub same_name : List ℕ → List ℕ → Bool
same_name = pointwise nat_eq
