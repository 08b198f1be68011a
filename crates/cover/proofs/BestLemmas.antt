-- The chosen cover of a job.
use Rattle.std.proofs.Common.{◌≡◌, ℕ, ◌+◌, ◌-◌, ◌<◌, ◌≤◌, List, [], length, Option, Some, None, Bool, true, false, refl, sym, ap, ◌∙◌, subst, arith, ◌⊎◌, inl, inr, nat_lt, if◌then◌else◌}
use Rattle.std.specs.Prelude.{slice_get}
use Rattle.std.specs.Option.{option_map}
use Rattle.std.proofs.lemmas.Bool.{cases_eq, ltb-true, ltb-false}
use Rattle.std.proofs.lemmas.List.{length-map}
use Rattle.std.proofs.lemmas.Option.{slice_get_within, slice_get-map}
use Rattle.rec_bits.proofs.Lists.{there}
use Rattle.rec_bits.proofs.Bits.{and_zero_r}
use Rattle.net_model.specs.Exprs.{ExprModel}
use Rattle.form_model.specs.Forms.{DestinationModel}
use Rattle.form_model.specs.Trees.{model_of_tree}
use Rattle.form_model.specs.declared.trees.Tree.{Tree}
use Rattle.form_model.specs.CoverModels.{CoverModel, use_form, cost, model_of_cover, model_of_cover_operands, model_of_cover_cuts}
use Rattle.form_model.specs.Covers.{StockModel, JobCoverModel, IsChosen, HasNoCover, parts_cost, written, IsBefore}
use Rattle.form_model.specs.declared.covers.Cover.{Cover}
use Rattle.cover.proofs.ChoiceLemmas.{first_by_form}
use Rattle.least_costs.proofs.FitLemmas.{best_least}
use Rattle.least_costs.specs.Searches.{open_operands, open_cuts}
use Rattle.least_costs.specs.Fits.{fit_cost, IsBestFit}
use Rattle.least_costs.specs.declared.fits.BestFit.{BestFit}
use Rattle.least_costs.specs.declared.limits.Limits.{Limits}
use Rattle.cover.specs.declared.covers.JobCover.{JobCover}
use Rattle.cover.specs.declared.covers.TreeCover.{TreeCover}
use Rattle.least_costs.specs.Subgoals.{free, SubgoalModel, IsSparing}
use Rattle.least_costs.specs.Least.{IsLeast}
use Rattle.cover.specs.Jobs.{trees_of}
use Rattle.cover.specs.Inner.Choice.{IsFirst, NeverBegins, AreFirstParts}
use Rattle.cover.specs.Best.{model_of_job_cover}
use Rattle.cover.specs.Inner.Best.{root_subgoal, IsTreeCover, better_of, Beats, IsBestOne, IsBest}
use Rattle.least_costs.proofs.OrderlyLemmas.{to_orderly, from_orderly}

pub first_cost : (stock : StockModel) (limits : Limits) (ask : SubgoalModel) (n : ℕ) (p : CoverModel) → IsLeast stock limits ask (Some n) → IsFirst stock limits ask p → n ≡ cost p
first_cost stock limits ask n p least first =
    let (p0, sparing0, e0) = least.reached in
    let h = least.least p first.sparing in
    elim (first.first p0 sparing0) [ inl lt ↦ absurd (omega (arith, lt, h, e0)) | inr eq ↦ (let e = eq.0 in omega (arith, e, e0)) ]

-- the first covers of the parts of the form that begins a first cover make one
pub parts_first : (stock : StockModel) (limits : Limits) (ask : SubgoalModel) (b : BestFit) (c : Cover) → IsBestFit stock limits ask (length stock.forms) b → AreFirstParts stock limits (open_operands b.fit.operands.items) (open_cuts b.fit.cuts.items) b.form c → IsFirst stock limits ask (model_of_cover c) × (fit_cost b.fit ≡ cost (model_of_cover c))
parts_first stock limits ask b c h parts =
    let least = best_least stock limits ask b h in
    let earlier : (j : ℕ) → j < b.form → NeverBegins stock limits ask (fit_cost b.fit) j = λ j lt ps cs sparing e. (let x = h.first j ps cs lt sparing in absurd (omega (arith, x, e))) in
    let first : IsFirst stock limits ask (model_of_cover c) =
    subst (λ k. IsFirst stock limits ask (use_form k (model_of_cover_operands c.operands) (model_of_cover_cuts c.cuts))) (sym parts.0)
    (first_by_form stock limits ask (fit_cost b.fit) least b.form _ _ _ _ _ _ earlier h.fits refl parts.1 parts.2) in
    (first, first_cost stock limits ask (fit_cost b.fit) (model_of_cover c) least first)

-- a first cover of the tree at j, among the covers of that tree
beats_same : (a b : CoverModel) (j i : ℕ) → i ≡ j → (cost a < cost b) ⊎ ((cost a ≡ cost b) × ((a ≡ b) ⊎ IsBefore a b)) → Beats (record { which = j; cover = a }) (record { which = i; cover = b })
beats_same a b j i e (inl lt) = inl lt
beats_same a b j i e (inr (same, inl eq)) = inr (same, inl (λ k. record { which = sym e k; cover = eq k }))
beats_same a b j i e (inr (same, inr before)) = inr (same, inr (inr (sym e, before)))

at_least : (a b : JobCoverModel) → Beats a b → cost a.cover ≤ cost b.cover
at_least a b (inl lt) = omega (arith, lt)
at_least a b (inr eq) = let e = eq.0 in omega (arith, e)

module _ (stock : StockModel) (destination : DestinationModel) (trees : List ExprModel) (j : ℕ) (t : ExprModel) (get : slice_get trees j ≡ Some t) where
  same_tree : (i : ℕ) (u : ExprModel) (q : CoverModel) → i ≡ j → slice_get trees i ≡ Some u → IsSparing stock (free stock) (root_subgoal destination u) q → IsSparing stock (free stock) (root_subgoal destination t) q
  same_tree i u q e get' sparing =
      let g : slice_get trees j ≡ Some u = subst (λ k. slice_get trees k ≡ Some u) e get' in
      let same : u ≡ t = cc in
      subst (λ x. IsSparing stock (free stock) (root_subgoal destination x) q) same sparing

  -- the new cover is the first of its tree, and cheaper than all before
  new_best : (x : TreeCover) → IsTreeCover stock (root_subgoal destination t) (Some x) → ((i : ℕ) (u : ExprModel) (q : CoverModel) → i < j → slice_get trees i ≡ Some u → IsSparing stock (free stock) (root_subgoal destination u) q → x.cost < cost q) → IsBestOne stock destination trees (j + 1) (record { which = j; cover = x.cover; cost = x.cost })
  new_best x (first, is) less = record {
    tree = t;
    used = get;
    within = omega arith;
    sparing = first.sparing;
    costs = is;
    beats = λ i u q lt get' sparing. elim (cases_eq i j) [
      | inl e ↦ beats_same (model_of_cover x.cover) q j i e (first.first q (same_tree i u q e get' sparing))
      | inr other ↦ inl (let l = less i u q (omega (arith, lt, other)) get' sparing in omega (arith, l, is))
    ];
  }

  -- the old cover stays
  old_best : (c : JobCover) → IsBestOne stock destination trees j c → ((q : CoverModel) → IsSparing stock (free stock) (root_subgoal destination t) q → c.cost ≤ cost q) → IsBestOne stock destination trees (j + 1) c
  old_best c b most = record {
    tree = b.tree;
    used = b.used;
    within = (let w = b.within in omega (arith, w));
    sparing = b.sparing;
    costs = b.costs;
    beats = λ i u q lt get' sparing. elim (cases_eq i j) [
      | inl e ↦ (let le = most q (same_tree i u q e get' sparing) in let k = b.costs in let w = b.within in
          elim (cases_eq (cost (model_of_cover c.cover)) (cost q)) [
            | inl eq ↦ inr (eq, inr (inl (omega (arith, w, e))))
            | inr ne ↦ inl (omega (arith, le, k, ne))
          ])
      | inr other ↦ b.beats i u q (omega (arith, lt, other)) get' sparing
    ];
  }

  tree_cover_least : (x : TreeCover) → IsTreeCover stock (root_subgoal destination t) (Some x) → (q : CoverModel) → IsSparing stock (free stock) (root_subgoal destination t) q → x.cost ≤ cost q
  tree_cover_least x (first, is) q sparing = elim (first.first q sparing) [ inl lt ↦ omega (arith, lt, is) | inr eq ↦ (let e = eq.0 in omega (arith, e, is)) ]

  pub best_more : (best : Option JobCover) (tree_cover : Option TreeCover) → IsBest stock destination trees j best → IsTreeCover stock (root_subgoal destination t) tree_cover → IsBest stock destination trees (j + 1) (better_of best j tree_cover)
  best_more None None b n = λ i u q lt get' sparing. elim (cases_eq i j) [
    | inl e ↦ n q (same_tree i u q e get' sparing)
    | inr other ↦ b i u q (omega (arith, lt, other)) get' sparing
  ]
  best_more (Some c) None b n = old_best c b (λ q sparing. absurd (n q sparing))
  best_more None (Some x) b n = new_best x n (λ i u q lt get' sparing. absurd (b i u q lt get' sparing))
  best_more (Some c) (Some x) b n = go (nat_lt x.cost c.cost) refl
    where
      go : (v : Bool) → nat_lt x.cost c.cost ≡ v → IsBest stock destination trees (j + 1) (if v then Some (record { which = j; cover = x.cover; cost = x.cost }) else Some c)
      go true e = new_best x n (λ i u q lt get' sparing. (let l = ltb-true x.cost c.cost e in let m = at_least (model_of_job_cover c) (record { which = i; cover = q }) (b.beats i u q lt get' sparing) in let k = b.costs in omega (arith, l, m, k)))
      go false e = old_best c b (λ q sparing. (let l = ltb-false x.cost c.cost e in let m = tree_cover_least x n q sparing in omega (arith, l, m)))

pub tree_get : (trees : List Tree) (j : ℕ) (t : Tree) → slice_get trees j ≡ Some t → slice_get (trees_of trees) j ≡ Some (model_of_tree t)
tree_get trees j t h = slice_get-map model_of_tree trees j ∙ ap (option_map model_of_tree) h

pub best_chosen : (stock : StockModel) (destination : DestinationModel) (trees : List ExprModel) (n : ℕ) (c : JobCover) → length trees ≡ n → IsBest stock destination trees n (Some c) → IsChosen stock destination trees (model_of_job_cover c)
best_chosen stock destination trees n c len b = record {
  covers =
      let (orderly, kept) = to_orderly stock (model_of_cover c.cover) (root_subgoal destination b.tree) (free stock) b.sparing in
      record { tree = b.tree; used = b.used; orderly = orderly; enough = kept.1 };
  first = λ other covers. b.beats other.which covers.tree other.cover (let w = slice_get_within trees other.which covers.tree covers.used in omega (arith, w, len)) covers.used
      (from_orderly stock other.cover (root_subgoal destination covers.tree) (free stock) covers.orderly (and_zero_r (written stock.forms other.cover), covers.enough));
}

pub best_none : (stock : StockModel) (destination : DestinationModel) (trees : List ExprModel) (n : ℕ) → length trees ≡ n → IsBest stock destination trees n None → HasNoCover stock destination trees
best_none stock destination trees n len b = record {
  none = λ other covers. b other.which covers.tree other.cover (let w = slice_get_within trees other.which covers.tree covers.used in omega (arith, w, len)) covers.used
      (from_orderly stock other.cover (root_subgoal destination covers.tree) (free stock) covers.orderly (and_zero_r (written stock.forms other.cover), covers.enough));
}

pub best_step : (stock : StockModel) (destination : DestinationModel) (trees : List Tree) (j : ℕ) (best new : Option JobCover) (tree_cover : Option TreeCover) → j < length trees → IsBest stock destination (trees_of trees) j best → ((t : ExprModel) → slice_get (trees_of trees) j ≡ Some t → IsTreeCover stock (root_subgoal destination t) tree_cover) → new ≡ better_of best j tree_cover → IsBest stock destination (trees_of trees) (j + 1) new
best_step stock destination trees j best new tree_cover lt b is e =
    let (t, get) = there trees j lt in
    let got = tree_get trees j t get in
    subst (IsBest stock destination (trees_of trees) (j + 1)) (sym e) (best_more stock destination (trees_of trees) j (model_of_tree t) got best tree_cover b (is (model_of_tree t) got))

pub is_cost : (stock : StockModel) (destination : DestinationModel) (trees : List ExprModel) (n : ℕ) (o : Option JobCover) (c : JobCover) → IsBest stock destination trees n o → o ≡ Some c → c.cost ≡ cost (model_of_cover c.cover)
is_cost stock destination trees n o c b e = let one : IsBestOne stock destination trees n c = subst (IsBest stock destination trees n) e b in one.costs

pub is_chosen : (stock : StockModel) (destination : DestinationModel) (trees : List Tree) (o : Option JobCover) (c : JobCover) → IsBest stock destination (trees_of trees) (length trees) o → o ≡ Some c → IsChosen stock destination (trees_of trees) (model_of_job_cover c)
is_chosen stock destination trees o c b e = best_chosen stock destination (trees_of trees) (length trees) c (length-map trees model_of_tree) (subst (IsBest stock destination (trees_of trees) (length trees)) e b)

pub is_none : (stock : StockModel) (destination : DestinationModel) (trees : List Tree) (o : Option JobCover) → IsBest stock destination (trees_of trees) (length trees) o → o ≡ None → HasNoCover stock destination (trees_of trees)
is_none stock destination trees o b e = best_none stock destination (trees_of trees) (length trees) (length-map trees model_of_tree) (subst (IsBest stock destination (trees_of trees) (length trees)) e b)

pub parts_is : (p : CoverModel) → cost p - 1 ≡ parts_cost p
parts_is (use_form k ps cs) = omega arith

-- the same choice with another cost
pub chosen_again : (stock : StockModel) (destination : DestinationModel) (trees : List ExprModel) (a b : JobCover) → model_of_job_cover b ≡ model_of_job_cover a → IsChosen stock destination trees (model_of_job_cover a) → IsChosen stock destination trees (model_of_job_cover b)
chosen_again stock destination trees a b e h = subst (IsChosen stock destination trees) (sym e) h
