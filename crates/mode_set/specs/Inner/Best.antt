-- The plan of a job in one mode, and the best among those of the first modes.
use Rattle.std.specs.Prelude.{ℕ, ◌<◌, ◌≤◌, ◌≡◌, ◌⊎◌, nat_le, if◌then◌else◌, List, Option, Some, None}
use Rattle.net_model.specs.Exprs.{ExprModel}
use Rattle.form_model.specs.Forms.{DestinationModel}
use Rattle.form_model.specs.Covers.{JobCoverModel, HasNoCover, IsChosen, job_cost, StockModel}
use Rattle.mode_set.specs.declared.plans.Plan.{Plan}
use Rattle.mode_set.specs.Costs.{CoversIn, MayRunIn, mode_cost}
use Rattle.mode_set.specs.Plans.{model_of_plan}

-- the cover that is chosen by these forms, which are those of a mode, and what it costs there
pub record IsPricedBy (forms : StockModel) (destination : DestinationModel) (trees : List ExprModel) (v : ℕ)
    (plan : Plan) : Type 0 where
  pub mode : plan.mode ≡ v
  pub chosen : IsChosen forms destination trees (model_of_plan plan).choice
  pub own : plan.cover.cost ≡ job_cost destination (model_of_plan plan).choice.cover
  pub cost : plan.cost ≡ mode_cost v destination (model_of_plan plan).choice.cover

-- this one, or that they cover the job in no way
abbrev pub IsPriceBy : StockModel → DestinationModel → List ExprModel → ℕ → Option Plan → Type 0
IsPriceBy forms destination trees v None = HasNoCover forms destination trees
IsPriceBy forms destination trees v (Some plan) = IsPricedBy forms destination trees v plan

-- a cover that is chosen in a mode in which the job may run, and what it costs there
pub record IsPriced (stock : ℕ → StockModel) (Usable : ℕ → Type 0) (destination : DestinationModel)
    (trees : List ExprModel) (plan : Plan) : Type 0 where
  pub can : Usable plan.mode
  pub may : MayRunIn destination plan.mode
  pub chosen : IsChosen (stock plan.mode) destination trees (model_of_plan plan).choice
  pub own : plan.cover.cost ≡ job_cost destination (model_of_plan plan).choice.cover
  pub cost : plan.cost ≡ mode_cost plan.mode destination (model_of_plan plan).choice.cover

-- the plan in a mode, or that there is none
abbrev pub IsPlanIn : (ℕ → StockModel) → (ℕ → Type 0) → DestinationModel → List ExprModel → ℕ → Option Plan → Type 0
IsPlanIn stock Usable destination trees v None = (choice : JobCoverModel) → CoversIn stock Usable destination trees v choice → ⊥
IsPlanIn stock Usable destination trees v (Some plan) =
    (plan.mode ≡ v) × IsPriced stock Usable destination trees plan

-- the least mode of least cost among those below a number
pub record IsBest (stock : ℕ → StockModel) (Usable : ℕ → Type 0) (destination : DestinationModel)
    (trees : List ExprModel) (n : ℕ) (plan : Plan) : Type 0 where
  pub is : IsPriced stock Usable destination trees plan
  pub below : plan.mode < n
  pub least : (v : ℕ) (other : JobCoverModel) → v < n → CoversIn stock Usable destination trees v other →
      (plan.cost < mode_cost v destination other.cover)
      ⊎ ((plan.cost ≡ mode_cost v destination other.cover) × (plan.mode ≤ v))

abbrev pub IsBestBelow : (ℕ → StockModel) → (ℕ → Type 0) → DestinationModel → List ExprModel → ℕ → Option Plan → Type 0
IsBestBelow stock Usable destination trees n None =
    (v : ℕ) (choice : JobCoverModel) → v < n → CoversIn stock Usable destination trees v choice → ⊥
IsBestBelow stock Usable destination trees n (Some plan) = IsBest stock Usable destination trees n plan

-- the plan that is known, or that of a later mode where it is cheaper
abbrev pub better_of : Option Plan → Option Plan → Option Plan
better_of best None = best
better_of None (Some later) = Some later
better_of (Some known) (Some later) = if nat_le known.cost later.cost then Some known else Some later
