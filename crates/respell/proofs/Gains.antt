-- A job that costs less than another's price gains over it.
use Rattle.std.proofs.Common.{◌≡◌, ℕ, ◌+◌, ◌<◌, ◌≤◌, Bool, Option, Some, None, ◌⊎◌, inl, inr, arith}
use Rattle.form_model.specs.Covers.{StockModel}
use Rattle.mode_set.specs.Costs.{CoversIn, HasNoPlan, IsPlanned, PlanModel, mode_cost}
use Rattle.src_trees.specs.Lowered.{JobModel}
use Rattle.respell.specs.Inner.Choosing.{IsFound, IsLess}
use Rattle.respell.specs.Kept.{HasCost, IsGain, IsPrice}

module _ (stock : ℕ → StockModel) (Usable : ℕ → Type 0) where
  -- a plan is a cover in its mode
  plan_covers : (job : JobModel) (planned : PlanModel) → IsPlanned stock Usable job.destination job.trees planned → CoversIn stock Usable job.destination job.trees planned.mode planned.choice
  plan_covers job planned is = record { can = is.can; may = is.may; covers = is.chosen.covers }

  -- the cost of a plan is the least
  cost_least : (job : JobModel) (cost other : ℕ) → HasCost stock Usable job cost → HasCost stock Usable job other → cost ≤ other
  cost_least job cost other h o =
      by (h.is.least o.planned.mode o.planned.choice (plan_covers job o.planned o.is))
    where
      by : (mode_cost h.planned.mode job.destination h.planned.choice.cover < mode_cost o.planned.mode job.destination o.planned.choice.cover)
          ⊎ ((mode_cost h.planned.mode job.destination h.planned.choice.cover ≡ mode_cost o.planned.mode job.destination o.planned.choice.cover) × (h.planned.mode ≤ o.planned.mode)) → cost ≤ other
      by (inl less) = let p = h.costs in let q = o.costs in omega (arith, less, p, q)
      by (inr same) = let e = same.0 in let p = h.costs in let q = o.costs in omega (arith, e, p, q)

  less_than : (job : JobModel) (own : Option ℕ) (cost : ℕ) → IsPrice stock Usable job own → IsLess cost own → (other : ℕ) → HasCost stock Usable job other → cost < other
  less_than job (Some n) cost price less other h = let le = cost_least job n other price h in omega (arith, le, less)
  less_than job None cost none less other h = absurd (none.none h.planned.mode h.planned.choice (plan_covers job h.planned h.is))

  pub gain : (width temps nodes : ℕ) (own : Option ℕ) (turned : Bool) (old new : JobModel) → IsPrice stock Usable old own → IsFound stock Usable width temps nodes own turned old new → IsGain stock Usable width temps nodes turned old new
  gain width temps nodes own turned old new price found = record {
    respelled = found.respelled;
    small = found.small;
    cost = found.cost;
    costs = found.cheaper.costs;
    less = less_than old own found.cost price found.cheaper.less;
  }
