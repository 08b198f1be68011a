-- What the code's lists of forms by modes give, and what its plans stand for.
use Rattle.std.specs.Prelude.{ℕ, ◌≡◌, Bool, true, List, [], Option, Some, None, slice_get}
use Rattle.form_model.specs.declared.forms.Forms.{Forms}
use Rattle.form_model.specs.Covers.{StockModel, stock_with}
use Rattle.cover.specs.Best.{model_of_job_cover}
use Rattle.mode_set.specs.declared.plans.Plan.{Plan}
use Rattle.mode_set.specs.Costs.{PlanModel}

-- the forms of a mode, so many temporary cells, and the cells of the register file; no forms past
-- the last mode
abbrev pub forms_stock : ℕ → Option Forms → StockModel
forms_stock temps None = record { forms = []; temps = temps; file = 0 }
forms_stock temps (Some forms) = stock_with forms.list.items temps forms.file

abbrev pub stock_at : List Forms → ℕ → ℕ → StockModel
stock_at forms temps v = forms_stock temps (slice_get forms v)

-- a mode that is marked as one that can be used
abbrev pub UsableAt : List Bool → ℕ → Type 0
UsableAt usable v = slice_get usable v ≡ Some true

-- the mode and the cover of a plan
abbrev pub model_of_plan : Plan → PlanModel
model_of_plan plan = record { mode = plan.mode; choice = model_of_job_cover plan.cover }
