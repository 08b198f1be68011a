-- What is known of a form that begins a cover of what is asked.
use Rattle.std.proofs.Common.{◌≡◌, ℕ, ◌+◌, ◌-◌, ◌*◌, ◌^◌, ◌<◌, List, length, Option, Some, None, refl, sym, ap, ◌∙◌, subst, inl, inr, arith, ◌≤◌, Bool, true, false}
use Rattle.std.specs.Prelude.{slice_get, IfSome, nat_lt, if◌then◌else◌}
use Rattle.std.specs.Option.{option_map}
use Rattle.net_model.specs.Exprs.{ExprModel}
use Rattle.form_model.specs.Forms.{FormModel, model_of_form}
use Rattle.form_model.specs.Matches.{MatchModel, taken}
use Rattle.form_model.specs.Covers.{StockModel, Operand, operands_of, cuts_of, cells_of_goal}
use Rattle.form_model.specs.declared.forms.Form.{Form}
use Rattle.form_model.specs.Trees.{model_of_tree}
use Rattle.tree_grammar.specs.declared.parts.Match.{Match}
use Rattle.tree_grammar.specs.Leaves.{model_of_destination, model_of_match, models_of_leaves, AreAt, Stands}
use Rattle.std.proofs.lemmas.Bool.{cases_eq, ltb-true, ltb-false}
use Rattle.std.proofs.lemmas.Option.{slice_get_within}
use Rattle.form_model.specs.CoverModels.{CoverModel, use_form, CoverOperandsModel, CoverCutsModel, cost, operands_cost, cuts_cost}
use Rattle.least_costs.specs.declared.fits.BestFit.{BestFit}
use Rattle.least_costs.specs.declared.limits.Limits.{Limits}
use Rattle.least_costs.specs.declared.search.Search.{Search}
use Rattle.tree_grammar.specs.declared.parts.Subgoal.{Subgoal}
use Rattle.least_costs.specs.declared.fits.Fit.{Fit}
use Rattle.least_costs.specs.declared.opened.OpenOperand.{OpenOperand}
use Rattle.least_costs.specs.declared.opened.OpenCut.{OpenCut}
use Rattle.least_costs.specs.Subgoals.{KeepsTo, SubgoalModel, takes, operands_size, exprs_size, AreFew, IsSparing}
use Rattle.least_costs.specs.Least.{NoMore, IsLeastForm, IsLeastOrder, IsLeastCut, summed, AtMost, IsLeast, IsLeastWithin}
use Rattle.least_costs.specs.Searches.{search_stock, search_nodes, open_operands, open_cuts, AreParts}
use Rattle.least_costs.specs.Fits.{model_of_subgoal, StandsGoal, IsFit, Fits, FitOf, FitsParts, fit_cost, cheaper_fit, IsBestFit, IsBestAmong}
use Rattle.least_costs.specs.Matched.{AreLowLeaves}
use Rattle.least_costs.proofs.SizeLemmas.{total_parts, taken_total}
use Rattle.least_costs.proofs.NodeLemmas.{stands_size}
use Rattle.least_costs.proofs.FewLemmas.{opened_low, order_few, cuts_few}
use Rattle.least_costs.proofs.LowLemmas.{taken_low}
use Rattle.least_costs.proofs.StartLemmas.{form_at}
use Rattle.least_costs.proofs.LeastLemmas.{some_form}

pub want_at : (search : Search) (w : Subgoal) (o : Option Match) (m : Match) → StandsGoal search w → IfSome o (λ x. (nodes : List ExprModel) → Stands nodes w.at (model_of_destination w.destination) (model_of_tree w.tree.now) → AreAt nodes x.parts.items) → o ≡ Some m → AreAt (search_nodes search) m.parts.items
want_at search w o m stands at is =
    let f : (nodes : List ExprModel) → Stands nodes w.at (model_of_destination w.destination) (model_of_tree w.tree.now) → AreAt nodes m.parts.items = subst (λ y. IfSome y (λ x. (nodes : List ExprModel) → Stands nodes w.at (model_of_destination w.destination) (model_of_tree w.tree.now) → AreAt nodes x.parts.items)) is at in
    f (search_nodes search) stands

pub want_takes : (search : Search) (form : Form) (w : Subgoal) (o : Option Match) (m : Match) → option_map model_of_match o ≡ taken search.temps (model_of_form form) (model_of_destination w.destination) (model_of_tree w.tree.now) w.whole → o ≡ Some m → takes (search_stock search) (model_of_form form) (model_of_subgoal w) ≡ Some (model_of_match m)
want_takes search form w o m found is = sym found ∙ ap (option_map model_of_match) is

-- the operands of what a form takes go to registers that a set of registers has a bit for
pub want_low : (search : Search) (form : Form) (k : ℕ) (w : Subgoal) (m : Match) → slice_get search.forms.now k ≡ Some form → takes (search_stock search) (model_of_form form) (model_of_subgoal w) ≡ Some (model_of_match m) → AreLowLeaves (models_of_leaves m.parts.items)
want_low search form k w m got is = taken_low search.temps (model_of_form form) (model_of_destination w.destination) (model_of_tree w.tree.now) w.whole (model_of_match m) is (search.low k (model_of_form form) (form_at search k form got))

-- what a form takes of it has no more subtrees than there are
pub want_parts : (search : Search) (form : FormModel) (w : Subgoal) (found : MatchModel) → StandsGoal search w → takes (search_stock search) form (model_of_subgoal w) ≡ Some found → AreParts (search_nodes search) (operands_of found.leaves) (cuts_of found.leaves)
want_parts search form w found stands is =
    let le = taken_total search.temps form (model_of_destination w.destination) (model_of_tree w.tree.now) w.whole found is in
    let n = stands_size (search_nodes search) w.at (model_of_destination w.destination) (model_of_tree w.tree.now) stands in
    let parts = total_parts found.leaves in
    omega (arith, le, n, parts)

-- the cost of a form with parts of so few subtrees
pub fit_few : (search : Search) (limits : Limits) (is : List OpenOperand) (ss : List OpenCut) (a b : Option ℕ) (o : Option Fit) → AreFew (length (search_nodes search)) → AreParts (search_nodes search) (open_operands is) (open_cuts ss) → IsLeastOrder (search_stock search) limits (open_operands is) a → IsLeastCut (search_stock search) (open_cuts ss) b → FitOf is ss a b o → IfSome o (λ f. fit_cost f < 2 ^ 64)
fit_few search limits is ss a b None few parts la lb h = tt
fit_few search limits is ss a b (Some f) few parts la lb (fi, fs, fa, fb) =
    let x = subst (λ n. NoMore n (36 * operands_size (open_operands is))) fa (order_few (search_stock search) search.low limits (open_operands is) a (opened_low is) la) in
    let y = subst (λ n. NoMore n (36 * exprs_size (open_cuts ss) - 18 * length (open_cuts ss))) fb (cuts_few (search_stock search) search.low (open_cuts ss) b lb) in
    omega (arith, x, y, parts, few)

summed_none : (x : Option ℕ) → summed x None ≡ None
summed_none None = refl
summed_none (Some n) = refl

fit_ok : (stock : StockModel) (limits : Limits) (ask : SubgoalModel) (k : ℕ) (form : FormModel) (found : MatchModel) (is : List OpenOperand) (ss : List OpenCut) (a b : Option ℕ) (o : Option Fit) → slice_get stock.forms k ≡ Some form → KeepsTo limits form.clobbers (cells_of_goal form.goal) → takes stock form ask ≡ Some found → open_operands is ≡ operands_of found.leaves → open_cuts ss ≡ cuts_of found.leaves → IsLeastOrder stock limits (open_operands is) a → IsLeastCut stock (open_cuts ss) b → FitOf is ss a b o → IsFit stock limits ask k o
fit_ok stock limits ask k form found is ss a b None get spared t ei es la lb (inl e) =
    subst (IsLeastForm stock limits ask k) (ap (λ x. summed (summed (Some 1) x) b) e)
    (some_form stock limits ask k form found a b get spared t (subst (λ l. IsLeastOrder stock limits l a) ei la) (subst (λ l. IsLeastCut stock l b) es lb))
fit_ok stock limits ask k form found is ss a b None get spared t ei es la lb (inr e) =
    subst (IsLeastForm stock limits ask k) (ap (λ x. summed (summed (Some 1) a) x) e ∙ summed_none (summed (Some 1) a))
    (some_form stock limits ask k form found a b get spared t (subst (λ l. IsLeastOrder stock limits l a) ei la) (subst (λ l. IsLeastCut stock l b) es lb))
fit_ok stock limits ask k form found is ss a b (Some f) get spared t ei es la lb (fi, fs, fa, fb) = record {
  form = form;
  found = found;
  listed = get;
  spared = spared;
  takes_it = t;
  operands_are = ap open_operands fi ∙ ei;
  cuts_are = ap open_cuts fs ∙ es;
  order = subst (λ l. IsLeastOrder stock limits (open_operands l) (Some f.operands_cost)) (sym fi) (subst (IsLeastOrder stock limits (open_operands is)) fa la);
  cut = subst (λ l. IsLeastCut stock (open_cuts l) (Some f.cuts_cost)) (sym fs) (subst (IsLeastCut stock (open_cuts ss)) fb lb);
}

pub parts_fit : (stock : StockModel) (limits : Limits) (ask : SubgoalModel) (k : ℕ) (form : FormModel) (found : MatchModel) (o : Option Fit) → slice_get stock.forms k ≡ Some form → KeepsTo limits form.clobbers (cells_of_goal form.goal) → takes stock form ask ≡ Some found → FitsParts stock limits (operands_of found.leaves) (cuts_of found.leaves) o → IsFit stock limits ask k o
parts_fit stock limits ask k form found o get spared t (is, ss, a, b, ei, es, la, lb, fit) = fit_ok stock limits ask k form found is ss a b o get spared t ei es la lb fit

pub fit_inputs : (P : List OpenOperand → Type 0) (is : List OpenOperand) (ss : List OpenCut) (a b : Option ℕ) (o : Option Fit) → FitOf is ss a b o → P is → IfSome o (λ f. P f.operands.items)
fit_inputs P is ss a b None h p = tt
fit_inputs P is ss a b (Some f) (fi, fs, fa, fb) p = subst P (sym fi) p

pub fit_stored : (P : List OpenCut → Type 0) (is : List OpenOperand) (ss : List OpenCut) (a b : Option ℕ) (o : Option Fit) → FitOf is ss a b o → P ss → IfSome o (λ f. P f.cuts.items)
fit_stored P is ss a b None h p = tt
fit_stored P is ss a b (Some f) (fi, fs, fa, fb) p = subst P (sym fs) p

-- the least cost of the covers by a form whose parts are known
pub fits_least : (stock : StockModel) (limits : Limits) (ask : SubgoalModel) (k : ℕ) (inputs : List Operand) (stored : List ExprModel) (a b : ℕ) → Fits stock limits ask k inputs stored a b → IsLeastForm stock limits ask k (Some (1 + a + b))
fits_least stock limits ask k inputs stored a b f =
    some_form stock limits ask k f.form f.found (Some a) (Some b) f.listed f.spared f.takes_it
    (subst (λ l. IsLeastOrder stock limits l (Some a)) f.operands_are f.order) (subst (λ l. IsLeastCut stock l (Some b)) f.cuts_are f.cut)

pub fit_form : (stock : StockModel) (limits : Limits) (ask : SubgoalModel) (k : ℕ) (o : Option Fit) → IsFit stock limits ask k o → IsLeastForm stock limits ask k (option_map fit_cost o)
fit_form stock limits ask k None h = h
fit_form stock limits ask k (Some f) h = fits_least stock limits ask k (open_operands f.operands.items) (open_cuts f.cuts.items) f.operands_cost f.cuts_cost h

-- ---- the first of the forms that begin a cover of least cost

pub best_start : (stock : StockModel) (limits : Limits) (ask : SubgoalModel) → IsBestAmong stock limits ask 0 None
best_start stock limits ask j ps cs lt sparing = absurd (omega (arith, lt))

module _ (stock : StockModel) (limits : Limits) (ask : SubgoalModel) (n : ℕ) where
  -- a cover by the form at n costs no less than its parts do
  by_last : (f : Fit) → IsFit stock limits ask n (Some f) → (j : ℕ) (ps : CoverOperandsModel) (cs : CoverCutsModel) → j ≡ n → IsSparing stock limits ask (use_form j ps cs) → fit_cost f ≤ 1 + operands_cost ps + cuts_cost cs
  by_last f is j ps cs at sparing =
      (fits_least stock limits ask n (open_operands f.operands.items) (open_cuts f.cuts.items) f.operands_cost f.cuts_cost is).least ps cs (subst (λ x. IsSparing stock limits ask (use_form x ps cs)) at sparing)

  pub best_more : (best : Option BestFit) (o : Option Fit) → IsBestAmong stock limits ask n best → IsFit stock limits ask n o → IsBestAmong stock limits ask (n + 1) (cheaper_fit best n o)
  best_more None None h is = λ j ps cs lt sparing. elim (cases_eq j n) [
    | inl at ↦ is.least ps cs (subst (λ x. IsSparing stock limits ask (use_form x ps cs)) at sparing)
    | inr other ↦ h j ps cs (omega arith) sparing
  ]
  best_more (Some b) None h is = record {
    within = (let w = h.within in omega (arith, w));
    fits = h.fits;
    least = λ j ps cs lt sparing. elim (cases_eq j n) [
      | inl at ↦ absurd (is.least ps cs (subst (λ x. IsSparing stock limits ask (use_form x ps cs)) at sparing))
      | inr other ↦ h.least j ps cs (omega arith) sparing
    ];
    first = h.first;
  }
  best_more None (Some f) h is = record {
    within = omega arith;
    fits = is;
    least = λ j ps cs lt sparing. elim (cases_eq j n) [
      | inl at ↦ by_last f is j ps cs at sparing
      | inr other ↦ absurd (h j ps cs (omega arith) sparing)
    ];
    first = λ j ps cs lt sparing. absurd (h j ps cs lt sparing);
  }
  best_more (Some b) (Some f) h is = go (nat_lt (fit_cost f) (fit_cost b.fit)) refl
    where
      go : (less : Bool) → nat_lt (fit_cost f) (fit_cost b.fit) ≡ less → IsBestAmong stock limits ask (n + 1) (if less then Some (record { form = n; fit = f }) else Some b)
      go true e = record {
        within = omega arith;
        fits = is;
        least = λ j ps cs lt sparing. elim (cases_eq j n) [
          | inl at ↦ by_last f is j ps cs at sparing
          | inr other ↦ (let x = h.least j ps cs (omega arith) sparing in let y = ltb-true (fit_cost f) (fit_cost b.fit) e in omega (arith, x, y))
        ];
        first = λ j ps cs lt sparing. (let x = h.least j ps cs lt sparing in let y = ltb-true (fit_cost f) (fit_cost b.fit) e in omega (arith, x, y));
      }
      go false e = record {
        within = (let w = h.within in omega (arith, w));
        fits = h.fits;
        least = λ j ps cs lt sparing. elim (cases_eq j n) [
          | inl at ↦ (let x = by_last f is j ps cs at sparing in let y = ltb-false (fit_cost f) (fit_cost b.fit) e in omega (arith, x, y))
          | inr other ↦ h.least j ps cs (omega arith) sparing
        ];
        first = h.first;
      }

-- what holds of each fit holds of the cheaper one
pub cheaper_keeps : (P : Fit → Type 0) (best : Option BestFit) (k : ℕ) (o : Option Fit) → IfSome best (λ b. P b.fit) → IfSome o P → IfSome (cheaper_fit best k o) (λ b. P b.fit)
cheaper_keeps P best k None p q = p
cheaper_keeps P None k (Some f) p q = q
cheaper_keeps P (Some b) k (Some f) p q = go (nat_lt (fit_cost f) (fit_cost b.fit))
  where
    go : (less : Bool) → IfSome (if less then Some (record { form = k; fit = f }) else Some b) (λ (x : BestFit). P x.fit)
    go true = q
    go false = p

module _ (stock : StockModel) (limits : Limits) (ask : SubgoalModel) where
  pub best_least : (b : BestFit) → IsBestFit stock limits ask (length stock.forms) b → IsLeast stock limits ask (Some (fit_cost b.fit))
  best_least b h = record { reached = reached; least = go }
    where
      known : IsLeastForm stock limits ask b.form (Some (fit_cost b.fit))
      known = fits_least stock limits ask b.form (open_operands b.fit.operands.items) (open_cuts b.fit.cuts.items) b.fit.operands_cost b.fit.cuts_cost h.fits

      reached : IsLeastWithin stock limits ask (Some (fit_cost b.fit))
      reached = let (ps, cs, sparing, e) = known.reached in (use_form b.form ps cs, sparing, e)

      go : (p : CoverModel) → IsSparing stock limits ask p → AtMost (Some (fit_cost b.fit)) (cost p)
      go (use_form k ps cs) (form, get, spared, found, is, orders, stored) = h.least k ps cs (slice_get_within stock.forms k form get) (form, get, spared, found, is, orders, stored)

  best_never : IsBestAmong stock limits ask (length stock.forms) None → (p : CoverModel) → IsSparing stock limits ask p → ⊥
  best_never h (use_form k ps cs) (form, get, spared, found, is, orders, stored) = h k ps cs (slice_get_within stock.forms k form get) (form, get, spared, found, is, orders, stored)

  pub best_none : (o : Option BestFit) (n : ℕ) → IsBestAmong stock limits ask n o → n ≡ length stock.forms → o ≡ None → (p : CoverModel) → IsSparing stock limits ask p → ⊥
  best_none o n h at e = best_never (subst (IsBestAmong stock limits ask (length stock.forms)) e (subst (λ m. IsBestAmong stock limits ask m o) at h))

  pub best_some : (o : Option BestFit) (b : BestFit) (n : ℕ) → IsBestAmong stock limits ask n o → n ≡ length stock.forms → o ≡ Some b → IsBestFit stock limits ask (length stock.forms) b
  best_some o b n h at e = subst (IsBestAmong stock limits ask (length stock.forms)) e (subst (λ m. IsBestAmong stock limits ask m o) at h)
