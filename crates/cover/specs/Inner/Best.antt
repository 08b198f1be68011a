-- The best cover over the trees of a job.
use Rattle.std.specs.Prelude.{ℕ, ◌<◌, ◌≡◌, ◌⊎◌, true, List, Option, Some, None, slice_get, nat_lt, if◌then◌else◌}
use Rattle.net_model.specs.Exprs.{ExprModel}
use Rattle.form_model.specs.Forms.{DestinationModel}
use Rattle.form_model.specs.CoverModels.{CoverModel, cost, model_of_cover}
use Rattle.form_model.specs.Covers.{StockModel, JobCoverModel, ChoiceBefore}
use Rattle.cover.specs.declared.covers.JobCover.{JobCover}
use Rattle.cover.specs.declared.covers.TreeCover.{TreeCover}
use Rattle.least_costs.specs.Subgoals.{free, SubgoalModel, IsSparing}
use Rattle.cover.specs.Inner.Choice.{IsFirst}
use Rattle.cover.specs.Best.{model_of_job_cover}

-- the tree of a job
abbrev pub root_subgoal : DestinationModel → ExprModel → SubgoalModel
root_subgoal destination tree = record { destination = destination; tree = tree; whole = true }

-- the first cover of least cost of one tree
abbrev pub IsTreeCover : StockModel → SubgoalModel → Option TreeCover → Type 0
IsTreeCover stock ask None = (q : CoverModel) → IsSparing stock (free stock) ask q → ⊥
IsTreeCover stock ask (Some t) = IsFirst stock (free stock) ask (model_of_cover t.cover) × (t.cost ≡ cost (model_of_cover t.cover))

abbrev pub better_of : Option JobCover → ℕ → Option TreeCover → Option JobCover
better_of best j None = best
better_of None j (Some t) = Some (record { which = j; cover = t.cover; cost = t.cost })
better_of (Some b) j (Some t) =
    if nat_lt t.cost b.cost then Some (record { which = j; cover = t.cover; cost = t.cost })
    else Some b

-- a choice is cheaper than another, or costs the same and isn't behind it
abbrev pub Beats : JobCoverModel → JobCoverModel → Type 0
Beats a b = (cost a.cover < cost b.cover) ⊎ ((cost a.cover ≡ cost b.cover) × ((a ≡ b) ⊎ ChoiceBefore a b))

pub record IsBestOne (stock : StockModel) (destination : DestinationModel) (trees : List ExprModel) (j : ℕ)
    (c : JobCover) : Type 0 where
  pub tree : ExprModel
  pub used : slice_get trees c.which ≡ Some tree
  pub within : c.which < j
  pub sparing : IsSparing stock (free stock) (root_subgoal destination tree) (model_of_cover c.cover)
  pub costs : c.cost ≡ cost (model_of_cover c.cover)
  pub beats : (i : ℕ) (t : ExprModel) (q : CoverModel) → i < j → slice_get trees i ≡ Some t →
      IsSparing stock (free stock) (root_subgoal destination t) q →
      Beats (model_of_job_cover c) (record { which = i; cover = q })

-- the chosen cover over the first j trees
abbrev pub IsBest : StockModel → DestinationModel → List ExprModel → ℕ → Option JobCover → Type 0
IsBest stock destination trees j None =
    (i : ℕ) (t : ExprModel) (q : CoverModel) → i < j → slice_get trees i ≡ Some t →
    IsSparing stock (free stock) (root_subgoal destination t) q → ⊥
IsBest stock destination trees j (Some c) = IsBestOne stock destination trees j c
