-- The words of tests and jumps.
use Rattle.form_model.specs.Forms.{FormModel}
use Rattle.form_model.specs.CoverModels.{CoverModel, use_form}
use Rattle.form_model.specs.Covers.{StockModel}
use Rattle.form_model.specs.Steps.{form_at}

-- the form at the root of a cover
abbrev pub cover_form : StockModel → CoverModel → FormModel
cover_form stock (use_form k ps cs) = form_at stock k
