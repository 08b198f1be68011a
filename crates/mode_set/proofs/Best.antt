-- The best plan among those of the first modes, one mode after the other.
use Rattle.std.proofs.Common.{ℕ, [], ◌≡◌, ◌≤◌, ◌<◌, ◌+◌, ◌⊎◌, inl, inr, nat_le, if◌then◌else◌, Bool, true, false, List, Option, Some, None, refl, sym, ◌∙◌, ap, arith, subst}
use Rattle.std.proofs.lemmas.Bool.{leb-true, leb-false, cases_lt}
use Rattle.rec_bits.proofs.Bits.{below_next}
use Rattle.net_model.specs.Exprs.{ExprModel}
use Rattle.form_model.specs.Covers.{JobCoverModel, ChoiceBefore, Covers, IsChosen, StockModel, job_cost, parts_cost}
use Rattle.form_model.specs.CoverModels.{CoverModel as Covering, cost, use_form}
use Rattle.form_model.specs.Forms.{DestinationModel, into, filed, cell, stored, temporary, tested}
use Rattle.mode_set.specs.declared.plans.Plan.{Plan}
use Rattle.mode_set.specs.Costs.{CoversIn, HasNoPlan, IsPlanned, MayRunIn, mode_cost}
use Rattle.mode_set.specs.Inner.Best.{IsBestBelow, IsPlanIn, IsPriceBy, better_of}
use Rattle.mode_set.specs.Plans.{model_of_plan}

-- ---- a chosen cover costs no more than another

own_one : (plan : Covering) → cost plan ≡ 1 + parts_cost plan
own_one (use_form k ps cs) = omega arith

less_cost : (destination : DestinationModel) (p q : Covering) → cost p ≤ cost q → job_cost destination p ≤ job_cost destination q
less_cost tested p q le = let a = own_one p in let b = own_one q in omega (arith, a, b, le)
less_cost (into id) p q le = le
less_cost filed p q le = le
less_cost (cell address) p q le = le
less_cost (stored address) p q le = le
less_cost temporary p q le = le

chosen_least : (stock : StockModel) (destination : DestinationModel) (trees : List ExprModel) (a b : JobCoverModel) → IsChosen stock destination trees a → Covers stock destination trees b → job_cost destination a.cover ≤ job_cost destination b.cover
chosen_least stock destination trees a b h k = less_cost destination a.cover b.cover (by (h.first b k))
  where
    by : (cost a.cover < cost b.cover) ⊎ ((cost a.cover ≡ cost b.cover) × ((a ≡ b) ⊎ ChoiceBefore a b)) → cost a.cover ≤ cost b.cover
    by (inl l) = omega (arith, l)
    by (inr e) = let s = e.0 in omega (arith, s)

module _ (stock : ℕ → StockModel) (Usable : ℕ → Type 0) (destination : DestinationModel) (trees : List ExprModel) where
  abbrev Least : ℕ → ℕ → ℕ → JobCoverModel → Type 0
  Least c mode v other = (c < mode_cost v destination other.cover) ⊎ ((c ≡ mode_cost v destination other.cover) × (mode ≤ v))

  -- the plan of a mode is the least there
  own_least : (v : ℕ) (p : Plan) → IsPlanIn stock Usable destination trees v (Some p) → (other : JobCoverModel) → CoversIn stock Usable destination trees v other → p.cost ≤ mode_cost v destination other.cover
  own_least v p h other c =
      let e : p.mode ≡ v = h.0 in
      let k : IsChosen (stock v) destination trees (model_of_plan p).choice = subst (λ m. IsChosen (stock m) destination trees (model_of_plan p).choice) e h.1.chosen in
      let own : p.cost ≡ mode_cost v destination (model_of_plan p).choice.cover = h.1.cost ∙ ap (λ m. mode_cost m destination (model_of_plan p).choice.cover) e in
      let le = chosen_least (stock v) destination trees (model_of_plan p).choice other k c.covers in
      omega (arith, own, le)

  -- the plan that the forms of one mode give
  pub plan_of_mode : (v : ℕ) (forms : StockModel) → stock v ≡ forms → Usable v → MayRunIn destination v → (o : Option Plan) → IsPriceBy forms destination trees v o → IsPlanIn stock Usable destination trees v o
  plan_of_mode v forms told can may None h = λ choice c. h.none choice (subst (λ (s : StockModel). Covers s destination trees choice) told c.covers)
  plan_of_mode v forms told can may (Some p) h = (
    h.mode,
    record {
      can = subst Usable (sym h.mode) can;
      may = subst (MayRunIn destination) (sym h.mode) may;
      chosen = subst (λ m. IsChosen (stock m) destination trees (model_of_plan p).choice) (sym h.mode) (subst (λ (s : StockModel). IsChosen s destination trees (model_of_plan p).choice) (sym told) h.chosen);
      own = h.own;
      cost = h.cost ∙ ap (λ m. mode_cost m destination (model_of_plan p).choice.cover) (sym h.mode);
    },
  )

  -- one mode more
  pub best_more : (n : ℕ) (best next : Option Plan) → IsBestBelow stock Usable destination trees n best → IsPlanIn stock Usable destination trees n next → IsBestBelow stock Usable destination trees (n + 1) (better_of best next)
  best_more n None None h k = λ v choice lt c. by v choice c (below_next v n lt)
    where
      by : (v : ℕ) (choice : JobCoverModel) → CoversIn stock Usable destination trees v choice → (v < n) ⊎ (v ≡ n) → ⊥
      by v choice c (inl l) = h v choice l c
      by v choice c (inr e) = k choice (subst (λ m. CoversIn stock Usable destination trees m choice) e c)
  best_more n (Some known) None h k = record {
    is = h.is;
    below = let b = h.below in omega (arith, b);
    least = λ v other lt c. by v other c (below_next v n lt);
  }
    where
      by : (v : ℕ) (other : JobCoverModel) → CoversIn stock Usable destination trees v other → (v < n) ⊎ (v ≡ n) → Least known.cost known.mode v other
      by v other c (inl l) = h.least v other l c
      by v other c (inr e) = absurd (k other (subst (λ m. CoversIn stock Usable destination trees m other) e c))
  best_more n None (Some later) h k = record {
    is = k.1;
    below = let e = k.0 in omega (arith, e);
    least = λ v other lt c. by v other c (below_next v n lt);
  }
    where
      by : (v : ℕ) (other : JobCoverModel) → CoversIn stock Usable destination trees v other → (v < n) ⊎ (v ≡ n) → Least later.cost later.mode v other
      by v other c (inl l) = absurd (h v other l c)
      by v other c (inr e) =
          let own = own_least n later k other (subst (λ m. CoversIn stock Usable destination trees m other) e c) in
          let mode = k.0 in
          at (ap (λ m. mode_cost m destination other.cover) e) own (omega (arith, mode, e))
        where
          at : mode_cost v destination other.cover ≡ mode_cost n destination other.cover → later.cost ≤ mode_cost n destination other.cover → later.mode ≤ v → Least later.cost later.mode v other
          at s le m = elim (cases_lt later.cost (mode_cost v destination other.cover)) as (λ _. Least later.cost later.mode v other) [
            | inl l ↦ inl l
            | inr g ↦ inr (omega (arith, s, le, g), m)
          ]
  best_more n (Some known) (Some later) h k = by_cost (nat_le known.cost later.cost) refl
    where
      by_cost : (b : Bool) → nat_le known.cost later.cost ≡ b → IsBestBelow stock Usable destination trees (n + 1) (if b then Some known else Some later)
      by_cost true e = record {
        is = h.is;
        below = let b = h.below in omega (arith, b);
        least = λ v other lt c. by v other c (below_next v n lt);
      }
        where
          by : (v : ℕ) (other : JobCoverModel) → CoversIn stock Usable destination trees v other → (v < n) ⊎ (v ≡ n) → Least known.cost known.mode v other
          by v other c (inl l) = h.least v other l c
          by v other c (inr f) =
              let own = own_least n later k other (subst (λ m. CoversIn stock Usable destination trees m other) f c) in
              let s : mode_cost v destination other.cover ≡ mode_cost n destination other.cover = ap (λ m. mode_cost m destination other.cover) f in
              let le = leb-true known.cost later.cost e in
              let b = h.below in
              elim (cases_lt known.cost (mode_cost v destination other.cover)) as (λ _. Least known.cost known.mode v other) [
                | inl l ↦ inl l
                | inr g ↦ inr (omega (arith, s, le, own, g), omega (arith, b, f))
              ]
      by_cost false e = record {
        is = k.1;
        below = let m = k.0 in omega (arith, m);
        least = λ v other lt c. by v other c (below_next v n lt);
      }
        where
          by : (v : ℕ) (other : JobCoverModel) → CoversIn stock Usable destination trees v other → (v < n) ⊎ (v ≡ n) → Least later.cost later.mode v other
          by v other c (inl l) =
              let gt = leb-false known.cost later.cost e in
              inl (less gt (h.least v other l c))
            where
              less : later.cost < known.cost → Least known.cost known.mode v other → later.cost < mode_cost v destination other.cover
              less gt (inl z) = omega (arith, gt, z)
              less gt (inr z) = let s = z.0 in omega (arith, gt, s)
          by v other c (inr f) =
              let own = own_least n later k other (subst (λ m. CoversIn stock Usable destination trees m other) f c) in
              let s : mode_cost v destination other.cover ≡ mode_cost n destination other.cover = ap (λ m. mode_cost m destination other.cover) f in
              let mode = k.0 in
              elim (cases_lt later.cost (mode_cost v destination other.cover)) as (λ _. Least later.cost later.mode v other) [
                | inl l ↦ inl l
                | inr g ↦ inr (omega (arith, s, own, g), omega (arith, mode, f))
              ]

  -- over all modes that can be used
  pub best_planned : (n : ℕ) (p : Plan) → ((v : ℕ) → Usable v → v < n) → IsBestBelow stock Usable destination trees n (Some p) → IsPlanned stock Usable destination trees (model_of_plan p)
  best_planned n p within h = record {
    can = h.is.can;
    may = h.is.may;
    chosen = h.is.chosen;
    least = λ v other c. subst (λ x. Least x p.mode v other) h.is.cost (h.least v other (within v c.can) c);
  }

  pub none_planned : (n : ℕ) → ((v : ℕ) → Usable v → v < n) → IsBestBelow stock Usable destination trees n None → HasNoPlan stock Usable destination trees
  none_planned n within h = record { none = λ v choice c. h v choice (within v c.can) c }
