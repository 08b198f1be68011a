-- Entries of maps of which the same holds, and keys of which one is so.
use Rattle.std.proofs.Common.{◌≡◌, Bool, true, false, cond, List, [], ◌∷◌, Some, None, if◌then◌else◌, refl, sym, ap, subst, ◌∙◌, ◌⊎◌, inl, inr}
use Rattle.std.specs.Map.{lookup}
use Rattle.indexmap.specs.IndexMap.{insert_entry}
use Rattle.tree_sharing.specs.Inner.Entries.{EachEntry, AnyKey}

module _ {K V : Type 0} (P : K → V → Type 0) (eq : K → K → Bool) (exact : (a b : K) → eq a b ≡ true → a ≡ b) where
  pub each_found : (entries : List (K × V)) (key : K) (v : V) → EachEntry P entries → lookup (eq key) entries ≡ Some v → P key v
  each_found [] key v h found = absurd (cc)
  each_found (e ∷ es) key v h found = by (eq key e.0) refl (λ f. each_found es key v h.1 f)
    where
      by : (b : Bool) → eq key e.0 ≡ b → (lookup (eq key) es ≡ Some v → P key v) → P key v
      by true same rest =
          let here : Some e.1 ≡ Some v = sym (ap (λ b. cond b (Some e.1) (lookup (eq key) es)) same) ∙ found in
          let is : e.1 ≡ v = cc in
          subst (P key) is (subst (λ k. P k e.1) (sym (exact key e.0 same)) h.0)
      by false other rest = rest (sym (ap (λ b. cond b (Some e.1) (lookup (eq key) es)) other) ∙ found)

  -- a map with one more entry
  pub each_added : (entries : List (K × V)) (key : K) (v : V) → EachEntry P entries → P key v → EachEntry P (insert_entry eq entries key v)
  each_added [] key v h new = (new, tt)
  each_added (e ∷ es) key v h new = by (eq key e.0) refl (each_added es key v h.1 new)
    where
      by : (b : Bool) → eq key e.0 ≡ b → EachEntry P (insert_entry eq es key v) → EachEntry P (if b then (e.0, v) ∷ es else e ∷ insert_entry eq es key v)
      by true same rest = (subst (λ k. P k v) (exact key e.0 same) new, h.1)
      by false other rest = (h.0, rest)

pub any_weaker : {K V : Type 0} (P Q : K → Type 0) → ((k : K) → P k → Q k) → (entries : List (K × V)) → AnyKey P entries → AnyKey Q entries
any_weaker P Q f [] any = any
any_weaker P Q f (e ∷ es) any = elim any [ inl p ↦ inl (f e.0 p) | inr rest ↦ inr (any_weaker P Q f es rest) ]

module _ {K V : Type 0} (P : K → Type 0) (eq : K → K → Bool) (exact : (a b : K) → eq a b ≡ true → a ≡ b) where
  pub any_found : (entries : List (K × V)) (key : K) (v : V) → lookup (eq key) entries ≡ Some v → P key → AnyKey P entries
  any_found [] key v found p = absurd (cc)
  any_found (e ∷ es) key v found p = by (eq key e.0) refl (λ f. any_found es key v f p)
    where
      by : (b : Bool) → eq key e.0 ≡ b → (lookup (eq key) es ≡ Some v → AnyKey P es) → P e.0 ⊎ AnyKey P es
      by true same rest = inl (subst P (exact key e.0 same) p)
      by false other rest = inr (rest (sym (ap (λ b. cond b (Some e.1) (lookup (eq key) es)) other) ∙ found))

  -- a map with one more entry
  pub any_kept : (entries : List (K × V)) (key : K) (v : V) → AnyKey P entries → AnyKey P (insert_entry eq entries key v)
  any_kept [] key v any = absurd any
  any_kept (e ∷ es) key v any = by (eq key e.0) any (any_kept es key v)
    where
      by : (b : Bool) → P e.0 ⊎ AnyKey P es → (AnyKey P es → AnyKey P (insert_entry eq es key v)) → AnyKey P (if b then (e.0, v) ∷ es else e ∷ insert_entry eq es key v)
      by true any rest = any
      by false any rest = elim any [ inl p ↦ inl p | inr later ↦ inr (rest later) ]

  pub any_added : (entries : List (K × V)) (key : K) (v : V) → P key → AnyKey P (insert_entry eq entries key v)
  any_added [] key v p = inl p
  any_added (e ∷ es) key v p = by (eq key e.0) refl (any_added es key v p)
    where
      by : (b : Bool) → eq key e.0 ≡ b → AnyKey P (insert_entry eq es key v) → AnyKey P (if b then (e.0, v) ∷ es else e ∷ insert_entry eq es key v)
      by true same rest = inl (subst P (exact key e.0 same) p)
      by false other rest = inr rest

-- a key that is found in no entry is none of theirs
pub none_found : {K V : Type 0} (eq : K → K → Bool) → ((a : K) → eq a a ≡ true) → (entries : List (K × V)) (key : K) → lookup (eq key) entries ≡ None → AnyKey (λ k. k ≡ key) entries → ⊥
none_found eq same [] key found any = any
none_found eq same (e ∷ es) key found any = by (eq key e.0) refl (none_found eq same es key)
  where
    by : (b : Bool) → eq key e.0 ≡ b → (lookup (eq key) es ≡ None → AnyKey (λ k. k ≡ key) es → ⊥) → ⊥
    by true is rest =
        let none : Some e.1 ≡ None = sym (ap (λ b. cond b (Some e.1) (lookup (eq key) es)) is) ∙ found in
        cc
    by false other rest =
        let none : lookup (eq key) es ≡ None = sym (ap (λ b. cond b (Some e.1) (lookup (eq key) es)) other) ∙ found in
        elim any [
          | inl p ↦ (let is : eq key e.0 ≡ true = ap (eq key) p ∙ same key in cc)
          | inr later ↦ rest none later
        ]
