-- Jobs of the code as plain values.
use Rattle.std.specs.Prelude.{List, map}
use Rattle.form_model.specs.declared.trees.Job.{Job}
use Rattle.form_model.specs.Trees.{model_of_tree}
use Rattle.form_model.specs.Forms.{aim_destination}
use Rattle.src_trees.specs.Lowered.{JobModel}

abbrev pub model_of_job : Job → JobModel
model_of_job job = record { destination = aim_destination job.aim; trees = map model_of_tree job.trees.items }

abbrev pub models_of_jobs : List Job → List JobModel
models_of_jobs jobs = map model_of_job jobs
