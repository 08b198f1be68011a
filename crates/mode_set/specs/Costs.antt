-- Costs by mode, and the mode and the cover that are chosen for a job. In a mode other than 0 a
-- job costs 2 more, its mode words; a test runs in mode 0. Its *plan* is the least mode of least
-- cost among those that can be used, and the cover that is chosen there by the forms that keep the
-- mode (`IsPlanned`); or it has no cover in any of them (`HasNoPlan`).
use Rattle.std.specs.Prelude.{ℕ, zero, suc, ◌+◌, ◌<◌, ◌≤◌, ◌≡◌, ◌⊎◌, List}
use Rattle.net_model.specs.Exprs.{ExprModel}
use Rattle.form_model.specs.Forms.{DestinationModel, into, filed, cell, stored, temporary, tested}
use Rattle.form_model.specs.CoverModels.{CoverModel}
use Rattle.form_model.specs.Covers.{JobCoverModel, Covers, IsChosen, StockModel, job_cost}

-- the mode words of an assignment: none in mode 0, and one on either side in another
abbrev pub mode_words : ℕ → ℕ
mode_words zero = 0
mode_words (suc v) = 2

-- the cost of a job in a mode
abbrev pub mode_cost : ℕ → DestinationModel → CoverModel → ℕ
mode_cost v destination cover = job_cost destination cover + mode_words v

-- a test runs in mode 0
abbrev pub MayRunIn : DestinationModel → ℕ → Type 0
MayRunIn tested v = v ≡ 0
MayRunIn (into id) v = Unit {0}
MayRunIn filed v = Unit {0}
MayRunIn (cell address) v = Unit {0}
MayRunIn (stored address) v = Unit {0}
MayRunIn temporary v = Unit {0}

-- an orderly cover of a job by the forms of a mode that can be used; `stock` gives the forms of each
-- mode, and `Usable` holds of those that can be used
pub record CoversIn (stock : ℕ → StockModel) (Usable : ℕ → Type 0) (destination : DestinationModel)
    (trees : List ExprModel) (v : ℕ) (choice : JobCoverModel) : Type 0 where
  pub can : Usable v
  pub may : MayRunIn destination v
  pub covers : Covers (stock v) destination trees choice

-- a mode, and a cover in it
pub record PlanModel : Type 0 where
  pub mode : ℕ
  pub choice : JobCoverModel

-- the least mode of least cost, and the cover that is chosen by its forms
pub record IsPlanned (stock : ℕ → StockModel) (Usable : ℕ → Type 0) (destination : DestinationModel)
    (trees : List ExprModel) (planned : PlanModel) : Type 0 where
  pub can : Usable planned.mode
  pub may : MayRunIn destination planned.mode
  pub chosen : IsChosen (stock planned.mode) destination trees planned.choice
  pub least : (v : ℕ) (other : JobCoverModel) → CoversIn stock Usable destination trees v other →
      (mode_cost planned.mode destination planned.choice.cover < mode_cost v destination other.cover)
      ⊎ ((mode_cost planned.mode destination planned.choice.cover ≡ mode_cost v destination other.cover)
      × (planned.mode ≤ v))

-- the job has no cover in any mode that it may run in
pub record HasNoPlan (stock : ℕ → StockModel) (Usable : ℕ → Type 0) (destination : DestinationModel)
    (trees : List ExprModel) : Type 0 where
  pub none : (v : ℕ) (choice : JobCoverModel) → CoversIn stock Usable destination trees v choice → ⊥
