-- What is kept in lists.
use Rattle.std.proofs.Common.{◌≡◌, ℕ, Bool, List, [], ◌∷◌, ◌++◌, Option, None, Some, Vec, refl, sym, ap, ◌∙◌, subst, arith, get_or, ◌<◌, length, zero, suc, inl, inr, ◌⊎◌}
use Rattle.std.specs.Prelude.{slice_get, slice_set}
use Rattle.std.specs.declared.alloc.Global.{Global}
use Rattle.net_model.specs.Exprs.{ExprModel}
use Rattle.least_costs.specs.declared.limits.Limits.{Limits}
use Rattle.least_costs.specs.declared.slots.Slot.{Slot}
use Rattle.least_costs.specs.declared.search.Search.{Search}
use Rattle.least_costs.specs.declared.table.KeptRow.{KeptRow}
use Rattle.least_costs.specs.Least.{IsLeast}
use Rattle.least_costs.specs.Slots.{place, IsEntry, IsSlot}
use Rattle.least_costs.specs.Rows.{row_subgoal}
use Rattle.least_costs.specs.Searches.{search_stock, search_nodes}
use Rattle.least_costs.specs.Tables.{AreEmpty, EachKept, IsKept}
use Rattle.least_costs.proofs.OfferLemmas.{get_either}
use Rattle.least_costs.proofs.SlotLemmas.{place_within}

-- what an entry is read as, whatever stands for none
pub same_default : (row : List (Option ℕ)) (i : ℕ) (o d : Option ℕ) → i < length row → o ≡ get_or row i o → get_or row i d ≡ o
same_default [] i o d l e = absurd (omega (arith, l))
same_default (x ∷ row) zero o d l e = sym e
same_default (x ∷ row) (suc i) o d l e = same_default row i o d (omega (arith, l)) e

pub entry_right : (search : Search) (number : ℕ) (row : KeptRow) (whole : Bool) (limits : Limits) (slot : Slot) (o : Option ℕ) → IsKept search number row → row.whole ≡ whole → row.limits ≡ limits → IsEntry slot → o ≡ get_or row.costs.items (place slot) o → (t : ExprModel) → slice_get (search_nodes search) number ≡ Some t → IsSlot whole slot → IsLeast (search_stock search) limits (row_subgoal t whole slot) o
entry_right search number row whole limits slot o right ew ea lt e t get is =
    subst (λ w. IsLeast (search_stock search) limits (row_subgoal t w slot) o) ew
    (subst (λ a. IsLeast (search_stock search) a (row_subgoal t row.whole slot) o) ea
    (subst (λ x. IsLeast (search_stock search) row.limits (row_subgoal t row.whole slot) x) (same_default row.costs.items (place slot) o None (let l = right.len in let w = place_within slot lt in omega (arith, l, w)) e) (right.least t get slot (subst (λ w. IsSlot w slot) (sym ew) is))))

-- ---- lists of what is kept

module _ {A : Type 0} where
  pub empty_push : (lists : List (Vec A Global)) (v : Vec A Global) → AreEmpty lists → v.items ≡ [] → AreEmpty (lists ++ (v ∷ []))
  empty_push lists v h e n u got = elim (get_either lists v u n got) [
    | inl old ↦ h n u old
    | inr new ↦ ap (λ (x : Vec A Global). x.items) new ∙ e
  ]

  pub empty_kept : (P : ℕ → A → Type 0) (lists : List (Vec A Global)) → AreEmpty lists → EachKept P lists
  empty_kept P lists h n v x got (i, here) = let e = h n v got in absurd (cc)

  set_get : (lists : List (Vec A Global)) (n m : ℕ) (v u : Vec A Global) → slice_get (slice_set lists n v) m ≡ Some u → (slice_get lists m ≡ Some u) ⊎ ((m ≡ n) × (u ≡ v))
  set_get [] zero m v u h = absurd (cc)
  set_get [] (suc n) m v u h = absurd (cc)
  set_get (x ∷ xs) zero zero v u h = inr (refl, cc)
  set_get (x ∷ xs) zero (suc m) v u h = inl h
  set_get (x ∷ xs) (suc n) zero v u h = inl h
  set_get (x ∷ xs) (suc n) (suc m) v u h = elim (set_get xs n m v u h) [
    | inl a ↦ inl a
    | inr b ↦ inr (ap suc b.0, b.1)
  ]

  -- one list has one more item
  pub kept_push : (P : ℕ → A → Type 0) (lists : List (Vec A Global)) (n : ℕ) (old new : Vec A Global) (x : A) → EachKept P lists → slice_get lists n ≡ Some old → new.items ≡ old.items ++ (x ∷ []) → P n x → EachKept P (slice_set lists n new)
  kept_push P lists n old new x h here e is m v y got (i, among) = elim (set_get lists n m new v got) [
    | inl before ↦ h m v y before (i, among)
    | inr (at, same) ↦
        let there : slice_get (old.items ++ (x ∷ [])) i ≡ Some y = subst (λ l. slice_get l i ≡ Some y) (ap (λ (z : Vec A Global). z.items) same ∙ e) among in
        subst (λ k. P k y) (sym at) (elim (get_either old.items x y i there) [
          | inl known ↦ h n old y here (i, known)
          | inr added ↦ subst (P n) (sym added) is
        ])
  ]
