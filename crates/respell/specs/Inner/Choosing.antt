-- Which of several spellings is chosen.
use Rattle.std.specs.Prelude.{ℕ, ◌<◌, Bool, Option, Some, None, IfSome}
use Rattle.form_model.specs.Covers.{StockModel}
use Rattle.src_trees.specs.Jobs.{model_of_job}
use Rattle.src_trees.specs.Lowered.{JobModel}
use Rattle.src_trees.specs.Measures.{IsSmall}
use Rattle.respell.specs.Kept.{HasCost}
use Rattle.respell.specs.Respelled.{IsRespelled}
use Rattle.respell.specs.declared.jobs.Best.{Best}
use Rattle.respell.specs.declared.jobs.Spelled.{Spelled}

-- less than a cost, or the first one
abbrev pub IsLess : ℕ → Option ℕ → Type 0
IsLess cost (Some other) = cost < other
IsLess cost None = Unit {0}

-- what is less than the one is less than the other
abbrev pub IsNoMore : Option ℕ → Option ℕ → Type 0
IsNoMore least own = (cost : ℕ) → IsLess cost least → IsLess cost own

-- a job that costs so much, which is less than what is known
pub record IsCheaper (stock : ℕ → StockModel) (Usable : ℕ → Type 0) (known : Option ℕ) (job : JobModel)
    (cost : ℕ) : Type 0 where
  pub costs : HasCost stock Usable job cost
  pub less : IsLess cost known

-- such a job in place of another
pub record IsFound (stock : ℕ → StockModel) (Usable : ℕ → Type 0) (width temps nodes : ℕ)
    (known : Option ℕ) (turned : Bool) (old new : JobModel) : Type 0 where
  pub respelled : IsRespelled width turned old new
  pub small : IsSmall width temps nodes new
  pub cost : ℕ
  pub cheaper : IsCheaper stock Usable known new cost

-- the best that is known is such a job, and what costs less than it costs less than the job's own
pub record IsBest (stock : ℕ → StockModel) (Usable : ℕ → Type 0) (width temps nodes : ℕ)
    (own : Option ℕ) (old : JobModel) (best : Best) : Type 0 where
  pub found : IfSome best.spelled (λ (s : Spelled). IsFound stock Usable width temps nodes own s.turned old (model_of_job s.job))
  pub least : IsNoMore best.cost own
