-- A statement has as many places as jobs.
use Rattle.std.proofs.Common.{◌≡◌, [], ◌∷◌, length, refl, arith}
use Rattle.std.proofs.lemmas.List.{length-append}
use Rattle.src_model.specs.Written.{StmtModel, assign, choice, while, count, StmtsModel, no_acts, act, ElseModel, without, otherwise}
use Rattle.src_trees.specs.Lowered.{MemoryMap, job_of_step, stmt_jobs, jobs_in, jobs_else}
use Rattle.job_places.specs.Places.{job_place, places_of_jobs, places_of_jobs_in, places_of_jobs_else, stepped}

module _ (m : MemoryMap) where
  mutual
    of_stmt : (a : StmtModel) → length (places_of_jobs a) ≡ length (stmt_jobs m a)
    of_stmt (assign place e) = refl
    of_stmt (choice test taken other) =
        omega (arith, of_stmts taken, of_else other, length-append (places_of_jobs_in taken) (places_of_jobs_else other), length-append (jobs_in m taken) (jobs_else m other))
    of_stmt (while test body) = omega (arith, of_stmts body)
    of_stmt (count counter at from to body) =
        omega (arith, of_stmts body, length-append (places_of_jobs_in body) (job_place at (stepped counter) ∷ []), length-append (jobs_in m body) (job_of_step m counter ∷ []))

    pub of_stmts : (a : StmtsModel) → length (places_of_jobs_in a) ≡ length (jobs_in m a)
    of_stmts no_acts = refl
    of_stmts (act a rest) =
        omega (arith, of_stmt a, of_stmts rest, length-append (places_of_jobs a) (places_of_jobs_in rest), length-append (stmt_jobs m a) (jobs_in m rest))

    of_else : (o : ElseModel) → length (places_of_jobs_else o) ≡ length (jobs_else m o)
    of_else without = refl
    of_else (otherwise body) = of_stmts body
