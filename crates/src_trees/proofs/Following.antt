-- The jobs of a program do what its statements say, and so do those that are made from them by a
-- change that keeps that.
use Rattle.std.proofs.Common.{ℕ, ◌≡◌, ◌+◌, List, [], ◌∷◌, ◌++◌, map, Some, refl, ◌∙◌, ap, subst, arith, slice_get}
use Rattle.std.specs.Option.{option_map}
use Rattle.std.proofs.lemmas.Nat.{mod_below, pow_pos}
use Rattle.std.proofs.lemmas.Option.{slice_get-map}
use Rattle.rec_bits.proofs.Booleans.{and_left, and_right}
use Rattle.src_model.specs.declared.program.Var.{Var as Declared}
use Rattle.src_model.specs.Written.{StmtModel, assign, choice, while, count, StmtsModel, no_acts, act, ElseModel, without, otherwise, ProgramModel, stmts_of}
use Rattle.src_model.specs.Sizes.{statements, statements_in}
use Rattle.src_trees.specs.Lowered.{MemoryMap, JobModel, job_of_start, job_of_counting, job_of_step, stmt_jobs, jobs_in, jobs_else}
use Rattle.src_trees.specs.Flows.{program_jobs}
use Rattle.src_trees.specs.Held.{HoldsVars}
use Rattle.src_trees.specs.Meant.{HasJob, count_test, DoStmt, DoStmts, DoElse, DoProgram, KeepsMeaning}
use Rattle.src_trees.proofs.Parts.{Stand, stand_all, stand_left, stand_right, jobs_in_length, stmt_jobs_length}
use Rattle.src_trees.proofs.Done.{assign_done, assign_fits, start_done, step_done, test_asked}

-- the jobs as `lower` gives them
pub own_meaning : (m : MemoryMap) (temps : ℕ) (vars : List Declared) → HoldsVars temps vars m → KeepsMeaning m temps vars (λ job. job)
own_meaning m temps vars held = record {
  assigns = λ place e. record {
    lies = λ cells c h. (assign_done m temps vars held cells c.room place e h.0.left.fits h.0.right.fits h.0.left.known h.0.right.known h.0.left.inside h.0.right.inside).lies;
    store = λ cells c h. (assign_done m temps vars held cells c.room place e h.0.left.fits h.0.right.fits h.0.left.known h.0.right.known h.0.left.inside h.0.right.inside).is;
    fits = λ cells c h. assign_fits m temps vars held cells c.room c.words e h.0.right.fits h.0.right.known h.0.right.inside h.1;
  };
  tests = λ test. record {
    lies = λ cells c h. (test_asked m temps vars held cells c.room test h.words h.sides h.left_known h.right_known (and_left _ _ h.inside) (and_right _ _ h.inside)).lies;
    value = λ cells c h. (test_asked m temps vars held cells c.room test h.words h.sides h.left_known h.right_known (and_left _ _ h.inside) (and_right _ _ h.inside)).are;
  };
  starts = λ counter from. record {
    lies = λ cells c h. (start_done m temps vars held cells c.room counter from h.0).1;
    store = λ cells c h. (start_done m temps vars held cells c.room counter from h.0).0;
    fits = λ cells c h. h.1;
  };
  steps = λ counter. record {
    lies = λ cells c h. (step_done m temps vars held cells c.room counter h).1;
    store = λ cells c h. (step_done m temps vars held cells c.room counter h).0;
    fits = λ cells c h. mod_below _ _ (pow_pos m.word);
  };
}

module _ (m : MemoryMap) (temps : ℕ) (vars : List Declared) (change : JobModel → JobModel) (keeps : KeepsMeaning m temps vars change) (own : List JobModel) where
  has_job : (Is : JobModel → Type 0) (number : ℕ) (job : JobModel) → slice_get own number ≡ Some job → Is (change job) → HasJob (map change own) number Is
  has_job Is number job at is = record { job = change job; at = slice_get-map change own number ∙ ap (option_map change) at; is = is }

  mutual
    stmt_does : (a : StmtModel) (tree : ℕ) → Stand own tree (stmt_jobs m a) → DoStmt m temps vars (map change own) tree a
    stmt_does (assign place e) tree s = has_job _ tree _ s.0 (keeps.assigns place e)
    stmt_does (choice test taken other) tree s = (
      has_job _ tree _ s.0 (keeps.tests test),
      stmts_do taken (tree + 1) (stand_left own (tree + 1) (jobs_in m taken) (jobs_else m other) s.1),
      else_does other (tree + 1 + statements_in taken)
          (stand_right own (tree + 1) (tree + 1 + statements_in taken) (jobs_in m taken) (jobs_else m other) (let n = jobs_in_length m taken in omega (arith, n)) s.1),
    )
    stmt_does (while test body) tree s = (has_job _ tree _ s.0 (keeps.tests test), stmts_do body (tree + 1) s.1)
    stmt_does (count counter at from to body) tree s =
        let rest : Stand own (tree + 2) (jobs_in m body ++ job_of_step m counter ∷ []) =
        stand_right own tree (tree + 2) (job_of_start m counter from ∷ (job_of_counting m counter at to ∷ [])) (jobs_in m body ++ job_of_step m counter ∷ []) refl s in
        let last : Stand own (tree + 2 + statements_in body) (job_of_step m counter ∷ []) =
        stand_right own (tree + 2) (tree + 2 + statements_in body) (jobs_in m body) (job_of_step m counter ∷ []) (let n = jobs_in_length m body in omega (arith, n)) rest in (
          has_job _ tree _ s.0 (keeps.starts counter from),
          has_job _ (tree + 1) _ s.1.0 (keeps.tests (count_test counter at to)),
          stmts_do body (tree + 2) (stand_left own (tree + 2) (jobs_in m body) (job_of_step m counter ∷ []) rest),
          has_job _ (tree + 2 + statements_in body) _ last.0 (keeps.steps counter),
        )

    stmts_do : (list : StmtsModel) (tree : ℕ) → Stand own tree (jobs_in m list) → DoStmts m temps vars (map change own) tree list
    stmts_do no_acts tree s = tt
    stmts_do (act a rest) tree s = (
      stmt_does a tree (stand_left own tree (stmt_jobs m a) (jobs_in m rest) s),
      stmts_do rest (tree + statements a) (stand_right own tree (tree + statements a) (stmt_jobs m a) (jobs_in m rest) (let n = stmt_jobs_length m a in omega (arith, n)) s),
    )

    else_does : (o : ElseModel) (tree : ℕ) → Stand own tree (jobs_else m o) → DoElse m temps vars (map change own) tree o
    else_does without tree s = tt
    else_does (otherwise body) tree s = stmts_do body tree s

pub program_does : (m : MemoryMap) (temps : ℕ) (l : ProgramModel) (change : JobModel → JobModel) → KeepsMeaning m temps l.vars change → DoProgram m temps l (map change (program_jobs m l))
program_does m temps l change keeps = stmts_do m temps l.vars change keeps (program_jobs m l) (stmts_of l.body) 0 (stand_all (program_jobs m l))

same_jobs : (stmt_jobs : List JobModel) → map (λ (job : JobModel). job) stmt_jobs ≡ stmt_jobs
same_jobs [] = refl
same_jobs (job ∷ later) = ap (λ (xs : List JobModel). job ∷ xs) (same_jobs later)

pub own_does : (m : MemoryMap) (temps : ℕ) (l : ProgramModel) → HoldsVars temps l.vars m → DoProgram m temps l (program_jobs m l)
own_does m temps l held =
    subst (λ (jobs : List JobModel). DoProgram m temps l jobs) (same_jobs (program_jobs m l)) (program_does m temps l (λ job. job) (own_meaning m temps l.vars held))
