-- A cover that keeps to limits is an orderly cover whose written set is apart from what is to be
-- avoided, and which needs no more cells of the file than are allowed.
use Rattle.std.proofs.Common.{◌≡◌, ℕ, ◌+◌, ◌≤◌, max, List, sym, ap, subst, ◌∙◌, arith}
use Rattle.std.specs.Prelude.{bit_and, bit_or, remove, slice_get}
use Rattle.std.proofs.lemmas.Nat.{and_comm, or_comm, and_or_self, and_or_apart, and_assoc}
use Rattle.rec_bits.proofs.Bits.{and_zero_r, and_zero_l}
use Rattle.net_model.specs.Exprs.{ExprModel}
use Rattle.form_model.specs.CoverModels.{CoverModel, use_form, CoverOperandsModel, no_operands, operand_then, CoverCutsModel, no_cuts, cut_then}
use Rattle.form_model.specs.Covers.{StockModel, Operand, home_set, form_cells, left_cells, need, operands_need, form_clobbers, written, all_written, IsOrderly, AreOrderly, AreCut}
use Rattle.form_model.proofs.NeedLaws.{cells_left, left_need}
use Rattle.least_costs.specs.declared.limits.Limits.{Limits}
use Rattle.least_costs.specs.Subgoals.{SubgoalModel, operand_subgoal, cut_subgoal, free, after, IsSparing, AreSparing, AreStored}

-- a union is apart from a set exactly where both parts are
pub apart_left : (a b s : ℕ) → bit_and (bit_or a b) s ≡ 0 → bit_and a s ≡ 0
apart_left a b s h =
    ap (λ x. bit_and x s) (sym (and_or_self a b))
    ∙ and_assoc s (bit_or b a) a
    ∙ ap (λ x. bit_and (bit_or b a) x) (and_comm a s)
    ∙ sym (and_assoc a (bit_or b a) s)
    ∙ ap (λ x. bit_and (bit_and x s) a) (or_comm b a)
    ∙ ap (λ x. bit_and x a) h
    ∙ and_zero_l a

pub apart_right : (a b s : ℕ) → bit_and (bit_or a b) s ≡ 0 → bit_and b s ≡ 0
apart_right a b s h = apart_left b a s (ap (λ x. bit_and x s) (or_comm b a) ∙ h)

pub apart_both : (a b s : ℕ) → bit_and a s ≡ 0 → bit_and b s ≡ 0 → bit_and (bit_or a b) s ≡ 0
apart_both a b s ha hb = and_or_apart s a b hb ∙ ha

max_within : (a b n : ℕ) → a ≤ n → b ≤ n → max a b ≤ n
max_within a b n h k = omega (arith, h, k)

within_left : (a b n : ℕ) → max a b ≤ n → a ≤ n
within_left a b n h = omega (arith, h)

within_right : (a b n : ℕ) → max a b ≤ n → b ≤ n
within_right a b n h = omega (arith, h)

-- a cover that keeps to limits: it writes nothing that is to be avoided, and needs no more cells of
-- the file than are allowed
abbrev pub Kept : StockModel → Limits → CoverModel → Type 0
Kept stock limits p = (bit_and (written stock.forms p) limits.avoid ≡ 0) × (need stock.forms p ≤ limits.allowed)

abbrev pub AllKept : StockModel → Limits → CoverOperandsModel → Type 0
AllKept stock limits ps =
    (bit_and (all_written stock.forms ps) limits.avoid ≡ 0) × (operands_need stock.forms ps ≤ limits.allowed)

mutual
  pub to_orderly : (stock : StockModel) (p : CoverModel) (ask : SubgoalModel) (limits : Limits) → IsSparing stock limits ask p → IsOrderly stock ask.destination ask.tree ask.whole p × Kept stock limits p
  to_orderly stock (use_form k ps cs) ask limits (form, listed, spared, found, m, orders, stored) =
      let (orderly, kept) = to_all stock ps _ limits orders in (
        (form, listed, found, m, orderly, to_cut stock cs _ stored),
        (
          apart_both _ _ limits.avoid (ap (λ o. bit_and (form_clobbers o) limits.avoid) listed ∙ spared.0) kept.0,
          max_within _ _ _ (subst (λ o. form_cells o ≤ limits.allowed) (sym listed) spared.1) kept.1,
        ),
      )

  to_all : (stock : StockModel) (ps : CoverOperandsModel) (ops : List Operand) (limits : Limits) → AreSparing stock limits ops ps → AreOrderly stock ops ps × AllKept stock limits ps
  to_all stock no_operands ops limits e = (e, (and_zero_l limits.avoid, omega arith))
  to_all stock (operand_then i p ps) ops limits (o, get, sparing, orders) =
      let (orderly, kept) = to_orderly stock p (operand_subgoal o) limits sparing in
      let (rest, later) = to_all stock ps (remove ops i) (after limits o.home) orders in
      let few = kept.1 in
      let few' = later.1 in
      let a : bit_and (bit_or limits.avoid (home_set o.home)) (all_written stock.forms ps) ≡ 0 = and_comm _ _ ∙ later.0 in
      let left = cells_left stock p o.home o.tree o.whole orderly in
      let mine = left_need stock p in (
        (o, get, orderly, and_comm _ _ ∙ apart_right limits.avoid (home_set o.home) _ a, rest),
        (
          apart_both _ _ limits.avoid kept.0 (and_comm _ _ ∙ apart_left limits.avoid (home_set o.home) _ a),
          max_within _ _ _ few (omega (arith, few, few', left, mine)),
        ),
      )

  to_cut : (stock : StockModel) (cs : CoverCutsModel) (ts : List ExprModel) → AreStored stock ts cs → AreCut stock ts cs
  to_cut stock no_cuts ts e = e
  to_cut stock (cut_then p cs) ts (t, us, e, sparing, stored) =
      let (orderly, kept) = to_orderly stock p (cut_subgoal t) (free stock) sparing in
      (t, us, e, orderly, kept.1, to_cut stock cs us stored)

mutual
  pub from_orderly : (stock : StockModel) (p : CoverModel) (ask : SubgoalModel) (limits : Limits) → IsOrderly stock ask.destination ask.tree ask.whole p → Kept stock limits p → IsSparing stock limits ask p
  from_orderly stock (use_form k ps cs) ask limits (form, listed, found, m, orderly, stored) (apart, few) = (
    form,
    listed,
    (
      ap (λ o. bit_and (form_clobbers o) limits.avoid) (sym listed) ∙ apart_left _ _ limits.avoid apart,
      subst (λ o. form_cells o ≤ limits.allowed) listed (within_left (form_cells (slice_get stock.forms k)) (operands_need stock.forms ps) _ few),
    ),
    found,
    m,
    from_all stock ps _ limits orderly (apart_right _ _ limits.avoid apart, within_right (form_cells (slice_get stock.forms k)) (operands_need stock.forms ps) _ few),
    from_cut stock cs _ stored,
  )

  from_all : (stock : StockModel) (ps : CoverOperandsModel) (ops : List Operand) (limits : Limits) → AreOrderly stock ops ps → AllKept stock limits ps → AreSparing stock limits ops ps
  from_all stock no_operands ops limits e kept = e
  from_all stock (operand_then i p ps) ops limits (o, get, orderly, spared, rest) (apart, few) =
      let mine = apart_right (written stock.forms p) (all_written stock.forms ps) limits.avoid apart in
      let both = apart_both limits.avoid (home_set o.home) (all_written stock.forms ps) (and_comm _ _ ∙ mine) (and_comm _ _ ∙ spared) in
      let left = cells_left stock p o.home o.tree o.whole orderly in
      let fits = within_right (need stock.forms p) (left_cells stock.forms p + operands_need stock.forms ps) limits.allowed few in (
        o,
        get,
        from_orderly stock p (operand_subgoal o) limits orderly (apart_left (written stock.forms p) (all_written stock.forms ps) limits.avoid apart, within_left (need stock.forms p) (left_cells stock.forms p + operands_need stock.forms ps) limits.allowed few),
        from_all stock ps (remove ops i) (after limits o.home) rest (and_comm _ _ ∙ both, omega (arith, fits, left)),
      )

  from_cut : (stock : StockModel) (cs : CoverCutsModel) (ts : List ExprModel) → AreCut stock ts cs → AreStored stock ts cs
  from_cut stock no_cuts ts e = e
  from_cut stock (cut_then p cs) ts (t, us, e, orderly, few, stored) = (t, us, e, from_orderly stock p (cut_subgoal t) (free stock) orderly (and_zero_r (written stock.forms p), few), from_cut stock cs us stored)
