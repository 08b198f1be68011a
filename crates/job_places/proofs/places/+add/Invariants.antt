use Rattle.std.proofs.Common.{◌≡◌, ◌++◌, drop, map}
use Rattle.src_model.specs.Written.{model_of_stmt, stmts_of}
use Rattle.job_places.specs.Places.{model_of_job_place, places_of_jobs_in}
use Rattle.job_places.proofs.places.+add.Given as goal

abbrev pub invariant-add_block-loop-statement : goal.invariant-add_block-loop-statement
invariant-add_block-loop-statement l =
    map model_of_job_place l.places.items ++ places_of_jobs_in (stmts_of (map model_of_stmt (drop l.statement-index l.block)))
    ≡ map model_of_job_place l.initial.places.items ++ places_of_jobs_in (stmts_of (map model_of_stmt l.block))
