-- The covers of jobs of which some may have none.
use Rattle.std.specs.Prelude.{Option, Some, None}
use Rattle.form_model.specs.Covers.{JobCoverModel, HasNoCover, IsChosen, StockModel}
use Rattle.src_trees.specs.Lowered.{JobModel}

-- the chosen cover of a job, or none where no cover is orderly
abbrev pub IsTried : StockModel → JobModel → Option JobCoverModel → Type 0
IsTried stock job None = HasNoCover stock job.destination job.trees
IsTried stock job (Some choice) = IsChosen stock job.destination job.trees choice
