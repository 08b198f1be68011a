-- Which match begins a cover of one cost.
use Rattle.std.proofs.Common.{◌≡◌, ◌≢◌, ℕ, ◌+◌, ◌<◌, List, length, Option, Some, None, Bool, refl, sym, ap, ◌∙◌, subst, arith, inl, inr}
use Rattle.std.specs.Prelude.{slice_get}
use Rattle.std.proofs.lemmas.Bool.{cases_eq, cases_lt}
use Rattle.std.proofs.lemmas.Option.{slice_get_within}
use Rattle.net_model.specs.Exprs.{ExprModel}
use Rattle.form_model.specs.Forms.{FormModel}
use Rattle.form_model.specs.CoverModels.{use_form}
use Rattle.form_model.specs.Covers.{cells_of_goal}
use Rattle.least_costs.specs.declared.limits.Limits.{Limits}
use Rattle.least_costs.specs.declared.slots.Slot.{Slot}
use Rattle.least_costs.specs.declared.search.Search.{Search}
use Rattle.cover.specs.declared.choice.PartCosts.{PartCosts}
use Rattle.least_costs.specs.declared.matches.FormMatch.{FormMatch}
use Rattle.least_costs.specs.Subgoals.{KeepsTo, takes, IsSparing}
use Rattle.least_costs.specs.Least.{AtMost, IsLeast, IsLeastOrder, IsLeastCut, IsFloor, summed}
use Rattle.least_costs.specs.Slots.{IsSlot, goal_slot}
use Rattle.least_costs.specs.Rows.{row_subgoal}
use Rattle.least_costs.specs.Searches.{search_stock, open_operands, open_cuts}
use Rattle.least_costs.specs.Matched.{IsFormMatch, AreFirstMatches}
use Rattle.cover.specs.Inner.Choice.{NeverBegins, CostsOf, CostsWithin, BeginsOne}
use Rattle.least_costs.proofs.LeastLemmas.{some_form}
use Rattle.least_costs.proofs.OfferLemmas.{row_small}
use Rattle.least_costs.proofs.MatchLemmas.{spared_is, kept_is, floor_below, matches_all}
use Rattle.cover.proofs.ChoiceLemmas.{never_by, cover_exists}

module _ (search : Search) (limits : Limits) (t : ExprModel) (whole : Bool) (m : FormMatch) (f : IsFormMatch search t whole m) (slot : Slot) (n : ℕ) (is_slot : IsSlot whole slot) (least : IsLeast (search_stock search) limits (row_subgoal t whole slot) (Some n)) where
  pub other_goal : m.goal ≢ slot → NeverBegins (search_stock search) limits (row_subgoal t whole slot) n m.form
  other_goal differ ps cs (form, get, spared, found, is, orders, stored) e =
      let l = f.listed in
      let same : form ≡ f.form = cc in
      let g : goal_slot f.form.goal whole ≡ Some slot = subst (λ (r : FormModel). goal_slot r.goal whole ≡ Some slot) same (row_small (search_stock search) form t whole slot found is_slot is).0 in
      let h = f.goes in
      differ (cc)

  pub other_clobbers : (KeepsTo limits m.clobbers m.cells → ⊥) → NeverBegins (search_stock search) limits (row_subgoal t whole slot) n m.form
  other_clobbers never ps cs (form, get, spared, found, is, orders, stored) e =
      let l = f.listed in
      let same : form ≡ f.form = cc in
      never (kept_is search limits t whole m f (subst (λ (r : FormModel). KeepsTo limits r.clobbers (cells_of_goal r.goal)) same spared))

  -- a cover by a form whose floor is above n doesn't cost n
  never_above : (a b d : Option ℕ) → IsFloor (search_stock search) limits (open_operands m.operands.items) a → IsLeastCut (search_stock search) (open_cuts m.cuts.items) b → d ≡ summed (summed (Some 1) a) b → (AtMost d n → ⊥) → NeverBegins (search_stock search) limits (row_subgoal t whole slot) n m.form
  never_above a b d floor lb e above ps cs sparing at =
      let h = floor_below search limits t whole m f a b ps cs slot floor lb is_slot sparing in
      above (subst (λ o. AtMost o n) (sym e) (subst (AtMost (summed (summed (Some 1) a) b)) at h.1))

  two_of : (a b : Option ℕ) (x : ℕ) → summed (summed (Some 1) a) b ≡ Some x → (j : ℕ) × (k : ℕ) × (a ≡ Some j) × (b ≡ Some k) × (x ≡ 1 + j + k)
  two_of None b x h = absurd (cc)
  two_of (Some j) None x h = absurd (cc)
  two_of (Some j) (Some k) x h = let e : 1 + j + k ≡ x = cc in (j, k, refl, refl, sym e)

  costs_begin : (a b : Option ℕ) (o : Option PartCosts) → m.goal ≡ slot → KeepsTo limits m.clobbers m.cells → IsLeastOrder (search_stock search) limits (open_operands m.operands.items) a → IsLeastCut (search_stock search) (open_cuts m.cuts.items) b → CostsOf n a b o → BeginsOne (search_stock search) limits (row_subgoal t whole slot) n m o
  costs_begin a b None at spared la lb differ =
      let takes' : takes (search_stock search) f.form (row_subgoal t whole slot) ≡ Some f.found = subst (λ j. takes (search_stock search) f.form (row_subgoal t whole j) ≡ Some f.found) at f.takes_it in
      never_by (search_stock search) limits (row_subgoal t whole slot) n m.form (summed (summed (Some 1) a) b) least
      (some_form (search_stock search) limits (row_subgoal t whole slot) m.form f.form f.found a b f.listed (spared_is search limits t whole m f spared) takes' (subst (λ l. IsLeastOrder (search_stock search) limits l a) f.operands la) (subst (λ l. IsLeastCut (search_stock search) l b) f.cuts lb))
      (λ x e same. (let p = two_of a b x e in differ p.0 p.1 p.2 p.3 (sym p.4 ∙ same)))
  costs_begin a b (Some c) at spared la lb (ea, eb, sum) = (
    record {
      form = f.form;
      found = f.found;
      listed = f.listed;
      spared = spared_is search limits t whole m f spared;
      takes_it = subst (λ j. takes (search_stock search) f.form (row_subgoal t whole j) ≡ Some f.found) at f.takes_it;
      operands_are = f.operands;
      cuts_are = f.cuts;
      order = subst (IsLeastOrder (search_stock search) limits (open_operands m.operands.items)) ea la;
      cut = subst (IsLeastCut (search_stock search) (open_cuts m.cuts.items)) eb lb;
    },
    sum,
  )

  pub begins_within : (o : Option PartCosts) → m.goal ≡ slot → KeepsTo limits m.clobbers m.cells → CostsWithin (search_stock search) limits (open_operands m.operands.items) (open_cuts m.cuts.items) n o → BeginsOne (search_stock search) limits (row_subgoal t whole slot) n m o
  begins_within o at spared (inl x) = costs_begin x.operands x.cuts o at spared x.order x.cut x.costs
  begins_within o at spared (inr (none, x)) =
      subst (BeginsOne (search_stock search) limits (row_subgoal t whole slot) n m) (sym none)
      (never_above x.operands x.cuts (summed (summed (Some 1) x.operands) x.cuts) x.floor x.cut refl x.above)

-- ---- the first match that begins a cover of one cost

module _ (search : Search) (limits : Limits) (t : ExprModel) (whole : Bool) (slot : Slot) (n : ℕ) (list : List FormMatch) (is_slot : IsSlot whole slot) (h : AreFirstMatches search t whole (length search.forms.now) list) where
  pub never_before : (i : ℕ) (m : FormMatch) → slice_get list i ≡ Some m → ((l : ℕ) (g : FormMatch) → l < i → slice_get list l ≡ Some g → NeverBegins (search_stock search) limits (row_subgoal t whole slot) n g.form) → (j : ℕ) → j < m.form → NeverBegins (search_stock search) limits (row_subgoal t whole slot) n j
  never_before i m here never j lt ps cs (form, get, spared, found, is, orders, stored) e =
      let (l, g, got, same) = matches_all search t whole list h j (record { entry = slot; slot = is_slot; form = form; found = found; listed = get; takes_it = is }) in
      elim (cases_lt l i) [
        | inl less ↦ never l g less got ps cs (subst (λ x. IsSparing (search_stock search) limits (row_subgoal t whole slot) (use_form x ps cs)) (sym same) (form, get, spared, found, is, orders, stored)) e
        | inr ge ↦ elim (cases_eq i l) [
          | inl at ↦ (let got' : slice_get list i ≡ Some g = subst (λ x. slice_get list x ≡ Some g) (sym at) got in let equal : g ≡ m = cc in let x = ap (λ (y : FormMatch). y.form) equal in absurd (omega (arith, x, same, lt)))
          | inr other ↦ (let x = h.ordered i l m g (omega arith) here got in absurd (omega (arith, x, same, lt)))
        ]
      ]

  pub some_match : IsLeast (search_stock search) limits (row_subgoal t whole slot) (Some n) → ((l : ℕ) (g : FormMatch) → l < length list → slice_get list l ≡ Some g → NeverBegins (search_stock search) limits (row_subgoal t whole slot) n g.form) → ⊥
  some_match least never = cover_exists (search_stock search) limits (row_subgoal t whole slot) n least go
    where
      go : (j : ℕ) → j < length (search_stock search).forms → NeverBegins (search_stock search) limits (row_subgoal t whole slot) n j
      go j lt ps cs (form, get, spared, found, is, orders, stored) e =
          let (l, g, got, same) = matches_all search t whole list h j (record { entry = slot; slot = is_slot; form = form; found = found; listed = get; takes_it = is }) in
          never l g (slice_get_within list l g got) got ps cs (subst (λ x. IsSparing (search_stock search) limits (row_subgoal t whole slot) (use_form x ps cs)) (sym same) (form, get, spared, found, is, orders, stored)) e

-- what holds of the matches before i, and of that at i, holds of those before i + 1
pub matches_later : (P : ℕ → Type 0) (list : List FormMatch) (i : ℕ) → ((l : ℕ) (g : FormMatch) → l < i → slice_get list l ≡ Some g → P g.form) → ((g : FormMatch) → slice_get list i ≡ Some g → P g.form) → (l : ℕ) (g : FormMatch) → l < i + 1 → slice_get list l ≡ Some g → P g.form
matches_later P list i earlier here l g lt got = elim (cases_eq l i) [
  | inl same ↦ here g (subst (λ x. slice_get list x ≡ Some g) same got)
  | inr other ↦ earlier l g (omega arith) got
]
