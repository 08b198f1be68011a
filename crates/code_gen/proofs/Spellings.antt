-- Jobs in other spellings: one more of them, and by forms that are the same in each mode that can be
-- used.
use Rattle.std.proofs.Common.{◌≡◌, ℕ, zero, suc, ◌+◌, ◌<◌, ◌⊎◌, inl, inr, Bool, false, List, [], ◌∷◌, ◌++◌, length, Some, refl, sym, ◌∙◌, ap, subst, arith, slice_get, unwrap_or}
use Rattle.std.proofs.lemmas.List.{length-append}
use Rattle.std.proofs.lemmas.Option.{slice_get_within}
use Rattle.rec_bits.proofs.Options.{same_Some}
use Rattle.form_model.specs.Covers.{StockModel}
use Rattle.mode_set.specs.Costs.{mode_cost}
use Rattle.src_trees.specs.Lowered.{JobModel}
use Rattle.src_trees.specs.Turned.{Turns}
use Rattle.respell.specs.Kept.{AreSpelled, HasCost, IsGain, KeepsOrGains}
use Rattle.code_gen.specs.Inner.Spelling.{turns_of}
use Rattle.code_gen.proofs.Told.{planned_along}

-- ---- one job more

get_more : {A : Type 0} (xs : List A) (x : A) (k : ℕ) (y : A) → slice_get (xs ++ x ∷ []) k ≡ Some y → (slice_get xs k ≡ Some y) ⊎ ((k ≡ length xs) × (x ≡ y))
get_more [] x zero y e = inr (refl, same_Some x y e)
get_more [] x (suc k) y e = absurd (cc e)
get_more (z ∷ xs) x zero y e = inl e
get_more (z ∷ xs) x (suc k) y e = by (get_more xs x k y e)
  where
    by : (slice_get xs k ≡ Some y) ⊎ ((k ≡ length xs) × (x ≡ y)) → (slice_get xs k ≡ Some y) ⊎ ((suc k ≡ suc (length xs)) × (x ≡ y))
    by (inl at) = inl at
    by (inr last) = inr (ap suc last.0, last.1)

mark_before : (marks : List Bool) (t : Bool) (k : ℕ) → k < length marks → slice_get (marks ++ t ∷ []) k ≡ slice_get marks k
mark_before [] t k h = absurd (omega (arith, h))
mark_before (m ∷ marks) t zero h = refl
mark_before (m ∷ marks) t (suc k) h = mark_before marks t k (omega (arith, h))

mark_at : (marks : List Bool) (t : Bool) → slice_get (marks ++ t ∷ []) (length marks) ≡ Some t
mark_at [] t = refl
mark_at (m ∷ marks) t = mark_at marks t

module _ (stock : ℕ → StockModel) (Usable : ℕ → Type 0) (width temps nodes : ℕ) where
  pub spelled_more : (marks : List Bool) (t : Bool) (old new : List JobModel) (a b : JobModel) → length marks ≡ length old → AreSpelled stock Usable width temps nodes (turns_of marks) old new
      → KeepsOrGains stock Usable width temps nodes t a b → AreSpelled stock Usable width temps nodes (turns_of (marks ++ t ∷ [])) (old ++ a ∷ []) (new ++ b ∷ [])
  spelled_more marks t old new a b long are next = record {
    count = let same = are.count in omega (arith, same, length-append new (b ∷ []), length-append old (a ∷ []));
    each = λ k x y ex ey. by k x y (get_more old a k x ex) (get_more new b k y ey);
  }
    where
      by : (k : ℕ) (x y : JobModel) → (slice_get old k ≡ Some x) ⊎ ((k ≡ length old) × (a ≡ x)) → (slice_get new k ≡ Some y) ⊎ ((k ≡ length new) × (b ≡ y))
          → KeepsOrGains stock Usable width temps nodes (turns_of (marks ++ t ∷ []) k) x y
      by k x y (inl ex) (inl ey) =
          let within = slice_get_within old k x ex in
          subst (λ (o : Bool). KeepsOrGains stock Usable width temps nodes o x y) (sym (ap (λ m. unwrap_or m false) (mark_before marks t k (omega (arith, within, long))))) (are.each k x y ex ey)
      by k x y (inr ex) (inr ey) =
          let at : slice_get (marks ++ t ∷ []) k ≡ Some t = ap (slice_get (marks ++ t ∷ [])) (ex.0 ∙ sym long) ∙ mark_at marks t in
          subst (λ (o : Bool). KeepsOrGains stock Usable width temps nodes o x y) (sym (ap (λ m. unwrap_or m false) at))
          (subst (λ (w : JobModel). KeepsOrGains stock Usable width temps nodes t w y) ex.1 (subst (λ (w : JobModel). KeepsOrGains stock Usable width temps nodes t a w) ey.1 next))
      by k x y (inl ex) (inr ey) = let within = slice_get_within old k x ex in let last = ey.0 in let same = are.count in absurd (omega (arith, within, last, same))
      by k x y (inr ex) (inl ey) = let within = slice_get_within new k y ey in let last = ex.0 in let same = are.count in absurd (omega (arith, within, last, same))

-- ---- by forms that are the same

module _ (a b : ℕ → StockModel) (A B : ℕ → Type 0) (to : (v : ℕ) → A v → B v) (back : (v : ℕ) → B v → A v) (same : (v : ℕ) → A v → a v ≡ b v) where
  cost_along : (job : JobModel) (cost : ℕ) → HasCost a A job cost → HasCost b B job cost
  cost_along job cost h = record { planned = h.planned; is = planned_along a b A B to back same job.destination job.trees h.planned h.is; costs = h.costs }

  cost_back : (job : JobModel) (cost : ℕ) → HasCost b B job cost → HasCost a A job cost
  cost_back job cost h = record { planned = h.planned; is = planned_along b a B A back to (λ v u. sym (same v (back v u))) job.destination job.trees h.planned h.is; costs = h.costs }

  gain_along : (width temps nodes : ℕ) (turned : Bool) (old new : JobModel) → IsGain a A width temps nodes turned old new → IsGain b B width temps nodes turned old new
  gain_along width temps nodes turned old new g = record {
    respelled = g.respelled;
    small = g.small;
    cost = g.cost;
    costs = cost_along new g.cost g.costs;
    less = λ other h. g.less other (cost_back old other h);
  }

  pub spelled_along : (width temps nodes : ℕ) (turned : Turns) (old new : List JobModel) → AreSpelled a A width temps nodes turned old new → AreSpelled b B width temps nodes turned old new
  spelled_along width temps nodes turned old new h = record {
    count = h.count;
    each = λ k x y ex ey. by (turned k) x y (h.each k x y ex ey);
  }
    where
      by : (t : Bool) (x y : JobModel) → KeepsOrGains a A width temps nodes t x y → KeepsOrGains b B width temps nodes t x y
      by t x y (inl kept) = inl kept
      by t x y (inr g) = inr (gain_along width temps nodes t x y g)
