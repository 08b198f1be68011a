-- The best cover over the trees of a job: the first of those of least cost. And the forms that the
-- code was given.
pub use Rattle.form_model.specs.Covers.{stock_with}
use Rattle.form_model.specs.CoverModels.{model_of_cover}
use Rattle.form_model.specs.Covers.{JobCoverModel}
use Rattle.cover.specs.declared.covers.JobCover.{JobCover}

-- the choice that the code's cover is
abbrev pub model_of_job_cover : JobCover → JobCoverModel
model_of_job_cover c = record { which = c.which; cover = model_of_cover c.cover }
