-- The places of statements one after the other.
use Rattle.std.proofs.Common.{◌≡◌, List, [], ◌∷◌, ◌++◌, map, ap, sym, ◌∙◌, append_assoc}
use Rattle.std.proofs.lemmas.List.{append-nil}
use Rattle.src_model.specs.declared.program.Stmt.{Stmt}
use Rattle.src_model.specs.Written.{StmtsModel, SrcTestModel, choice, without, otherwise, model_of_stmt, stmts_of}
use Rattle.job_places.specs.Places.{JobPlaceModel, job_place, chosen, places_of_jobs, places_of_jobs_in}

abbrev pub block_stmts : List Stmt → StmtsModel
block_stmts l = stmts_of (map model_of_stmt l)

-- one statement further
pub spots_next : (left rest : List Stmt) (s : Stmt) (old new whole : List JobPlaceModel) → left ≡ s ∷ rest → new ≡ old ++ places_of_jobs (model_of_stmt s)
    → old ++ places_of_jobs_in (block_stmts left) ≡ whole → new ++ places_of_jobs_in (block_stmts rest) ≡ whole
spots_next left rest s old new whole is e w =
    ap (λ l. l ++ places_of_jobs_in (block_stmts rest)) e
    ∙ append_assoc old (places_of_jobs (model_of_stmt s)) (places_of_jobs_in (block_stmts rest))
    ∙ ap (λ l. old ++ places_of_jobs_in (block_stmts l)) (sym is) ∙ w

-- at the end
pub spots_end : (left : List Stmt) (old whole : List JobPlaceModel) → left ≡ [] → old ++ places_of_jobs_in (block_stmts left) ≡ whole → old ≡ whole
spots_end left old whole is w = sym (append-nil old) ∙ ap (λ l. old ++ places_of_jobs_in (block_stmts l)) (sym is) ∙ w

-- an else part stands behind what is taken
pub spots_with_else : (test : SrcTestModel) (taken other : StmtsModel) (old mid new : List JobPlaceModel) → mid ≡ old ++ places_of_jobs (choice test taken without)
    → new ≡ mid ++ places_of_jobs_in other → new ≡ old ++ places_of_jobs (choice test taken (otherwise other))
spots_with_else test taken other old mid new e f =
    f ∙ ap (λ l. l ++ places_of_jobs_in other) e ∙ append_assoc old (places_of_jobs (choice test taken without)) (places_of_jobs_in other)
    ∙ ap (λ l. old ++ (job_place test.left.at chosen ∷ (l ++ places_of_jobs_in other))) (append-nil (places_of_jobs_in taken))
