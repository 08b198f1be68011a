-- The jobs of a program: those of assignments store something and have one tree, and those of tests
-- store nothing.
use Rattle.right_code.specs.FlowJobs.{AllOne, AreFlowJobs, IsTestJob}
use Rattle.std.proofs.Common.{ℕ, zero, suc, ◌≡◌, ◌<◌, ◌+◌, Bool, true, false, if◌then◌else◌, List, [], ◌∷◌, ◌++◌, length, Option, None, Some, refl, sym, ◌∙◌, subst, arith, slice_get}
use Rattle.rec_bits.proofs.Options.{same_Some}
use Rattle.rec_bits.proofs.Lists.{slice_get_within, there}
use Rattle.net_model.specs.Exprs.{ExprModel, const}
use Rattle.src_model.specs.declared.program.Cmp.{Cmp}
use Rattle.src_model.specs.declared.program.Cmp.TheVariants.{Ne}
use Rattle.src_model.specs.Written.{SrcExprModel, StmtModel, assign, choice, while, count, StmtsModel, no_acts, act, ElseModel, without, otherwise, ProgramModel, stmts_of}
use Rattle.src_model.specs.Sizes.{statements, statements_in}
use Rattle.form_model.specs.declared.flow.Flow.{Flow}
use Rattle.form_model.specs.declared.flow.Flow.TheVariants.{Assign, Test as Tested, Jump as Jumped, End as Ended}
use Rattle.form_model.specs.Forms.{FormModel, DestinationModel, into, cell, filed, stored, temporary, tested}
use Rattle.src_model.specs.Indexes.{number_of}
use Rattle.src_trees.specs.Lowered.{MemoryMap, JobModel, assigned_destination, element_destination, holds_at_one, job_of_start, job_of_step, tree_of, stmt_jobs, jobs_in, jobs_else}
use Rattle.src_trees.specs.Flows.{places_for, places_in, else_entry, asked, flow_of, flow_in, flow_else, program_flow, program_jobs}
use Rattle.src_trees.proofs.Parts.{Stand, stand_left, stand_right, stand_all, stmt_jobs_length, jobs_in_length}
use Rattle.branch_fix.specs.Parts.{FitsPart, PartsFit}
use Rattle.branch_fix.specs.declared.part.BranchedTest.{BranchedTest}
use Rattle.branch_fix.specs.declared.part.LayoutPart.{LayoutPart}
use Rattle.branch_fix.specs.declared.part.LayoutPart.TheVariants.{Test}
use Rattle.branch_fix.proofs.Addresses.{part_at, fit_length}
use Rattle.right_code.specs.Jobs.{HasOne}

-- ---- one tree

one_on : (xs ys : List JobModel) → AllOne xs → AllOne ys → AllOne (xs ++ ys)
one_on [] ys g h = h
one_on (x ∷ xs) ys g h = (g.0, one_on xs ys g.1 h)

one_any : (destination : DestinationModel) (t : ExprModel) → HasOne destination (t ∷ [])
one_any (into id) t = (t, refl)
one_any (cell a) t = (t, refl)
one_any (stored a) t = (t, refl)
one_any temporary t = (t, refl)
one_any filed t = (t, refl)
one_any tested t = tt

mutual
  job_one : (m : MemoryMap) (a : StmtModel) → AllOne (stmt_jobs m a)
  job_one m (assign place e) = (one_any _ _, tt)
  job_one m (choice test taken other) = (tt, one_on (jobs_in m taken) (jobs_else m other) (jobs_one m taken) (else_one m other))
  job_one m (while test body) = (tt, jobs_one m body)
  job_one m (count counter at from to body) = (one_any (job_of_start m counter from).destination (const m.word from), (tt, one_on (jobs_in m body) (job_of_step m counter ∷ []) (jobs_one m body) ((_, refl), tt)))

  pub jobs_one : (m : MemoryMap) (list : StmtsModel) → AllOne (jobs_in m list)
  jobs_one m no_acts = tt
  jobs_one m (act a rest) = one_on (stmt_jobs m a) (jobs_in m rest) (job_one m a) (jobs_one m rest)

  else_one : (m : MemoryMap) (o : ElseModel) → AllOne (jobs_else m o)
  else_one m without = tt
  else_one m (otherwise body) = jobs_one m body

-- ---- the jobs of the flow

assigned_stores : (m : MemoryMap) (name : List ℕ) (index : Option SrcExprModel) → assigned_destination m name index ≡ tested → ⊥
assigned_stores m name None e = absurd (cc e)
assigned_stores m name (Some x) e = by (number_of x.shape) e
  where
    by : (n : Option ℕ) → element_destination m name n (tree_of m m.word x.shape) ≡ tested → ⊥
    by None e = absurd (cc e)
    by (Some n) e = absurd (cc e)

tests_on : (all : List JobModel) (xs ys : List Flow) → AreFlowJobs all xs → AreFlowJobs all ys → AreFlowJobs all (xs ++ ys)
tests_on all [] ys g h = h
tests_on all (Assign tree ∷ xs) ys g h = (g.0, tests_on all xs ys g.1 h)
tests_on all (Tested tree one none ∷ xs) ys g h = (g.0, tests_on all xs ys g.1 h)
tests_on all (Jumped to ∷ xs) ys g h = tests_on all xs ys g h
tests_on all (Ended ∷ xs) ys g h = tests_on all xs ys g h

asked_tests : (all : List JobModel) (cmp : Cmp) (tree on_true on_false : ℕ) (rest : List Flow) → IsTestJob all tree → AreFlowJobs all rest → AreFlowJobs all (asked cmp tree on_true on_false ∷ rest)
asked_tests all cmp tree on_true on_false rest t g = by (holds_at_one cmp)
  where
    by : (b : Bool) → AreFlowJobs all ((if b then Tested tree on_true on_false else Tested tree on_false on_true) ∷ rest)
    by true = (t, g)
    by false = (t, g)

module _ (m : MemoryMap) (all : List JobModel) where
  mutual
    flow_tests : (a : StmtModel) (tree at : ℕ) → Stand all tree (stmt_jobs m a) → AreFlowJobs all (flow_of a tree at)
    flow_tests (assign place e) tree at h = (record { job = _; at = h.0; destination = assigned_stores m place.name place.index }, tt)
    flow_tests (choice test taken other) tree at h =
        let n = jobs_in_length m taken in
        asked_tests all test.cmp tree (at + 1) (else_entry other (at + 1 + places_in taken)) (flow_in taken (tree + 1) (at + 1) ++ flow_else other (tree + 1 + statements_in taken) (at + 1 + places_in taken))
        (record { job = _; at = h.0; destination = refl })
        (tests_on all (flow_in taken (tree + 1) (at + 1)) (flow_else other (tree + 1 + statements_in taken) (at + 1 + places_in taken))
        (in_tests taken (tree + 1) (at + 1) (stand_left all (tree + 1) (jobs_in m taken) (jobs_else m other) h.1))
        (else_tests other (tree + 1 + statements_in taken) (at + 1 + places_in taken) (stand_right all (tree + 1) (tree + 1 + statements_in taken) (jobs_in m taken) (jobs_else m other) (omega (arith, n)) h.1)))
    flow_tests (while test body) tree at h =
        asked_tests all test.cmp tree (at + 1) (at + 1 + places_in body + 1) (flow_in body (tree + 1) (at + 1) ++ Jumped at ∷ []) (record { job = _; at = h.0; destination = refl })
        (tests_on all (flow_in body (tree + 1) (at + 1)) (Jumped at ∷ []) (in_tests body (tree + 1) (at + 1) h.1) tt)
    flow_tests (count counter from_at from to body) tree at h =
        let z : tree + 1 + 1 ≡ tree + 2 = omega arith in
        let n = jobs_in_length m body in
        let next : Stand all (tree + 2) (jobs_in m body ++ job_of_step m counter ∷ []) = subst (λ k. Stand all k (jobs_in m body ++ job_of_step m counter ∷ [])) z h.1.1 in
        let step = stand_right all (tree + 2) (tree + 2 + statements_in body) (jobs_in m body) (job_of_step m counter ∷ []) (omega (arith, n)) next in (
          record { job = job_of_start m counter from; at = h.0; destination = λ e. absurd (cc e) },
          asked_tests all Ne (tree + 1) (at + 2) (at + 2 + places_in body + 2) (flow_in body (tree + 2) (at + 2) ++ Assign (tree + 2 + statements_in body) ∷ (Jumped (at + 1) ∷ [])) (record { job = _; at = h.1.0; destination = refl })
              (tests_on all (flow_in body (tree + 2) (at + 2)) (Assign (tree + 2 + statements_in body) ∷ (Jumped (at + 1) ∷ []))
              (in_tests body (tree + 2) (at + 2) (stand_left all (tree + 2) (jobs_in m body) (job_of_step m counter ∷ []) next))
              (record { job = job_of_step m counter; at = step.0; destination = λ e. absurd (cc e) }, tt)),
        )

    pub in_tests : (list : StmtsModel) (tree at : ℕ) → Stand all tree (jobs_in m list) → AreFlowJobs all (flow_in list tree at)
    in_tests no_acts tree at h = tt
    in_tests (act a rest) tree at h =
        let n = stmt_jobs_length m a in
        tests_on all (flow_of a tree at) (flow_in rest (tree + statements a) (at + places_for a)) (flow_tests a tree at (stand_left all tree (stmt_jobs m a) (jobs_in m rest) h))
        (in_tests rest (tree + statements a) (at + places_for a) (stand_right all tree (tree + statements a) (stmt_jobs m a) (jobs_in m rest) (omega (arith, n)) h))

    else_tests : (o : ElseModel) (tree at : ℕ) → Stand all tree (jobs_else m o) → AreFlowJobs all (flow_else o tree at)
    else_tests without tree at h = tt
    else_tests (otherwise body) tree at h = in_tests body tree (at + 1) h

pub program_tests : (m : MemoryMap) (l : ProgramModel) → AreFlowJobs (program_jobs m l) (program_flow l)
program_tests m l = tests_on (program_jobs m l) (flow_in (stmts_of l.body) 0 0) (Ended ∷ []) (in_tests m (program_jobs m l) (stmts_of l.body) 0 0 (stand_all (program_jobs m l))) tt

pub tests_get : (all : List JobModel) (xs : List Flow) (k tree one none : ℕ) → AreFlowJobs all xs → slice_get xs k ≡ Some (Tested tree one none) → IsTestJob all tree
tests_get all [] k tree one none h e = absurd (cc e)
tests_get all (Tested t a b ∷ xs) zero tree one none h e = let p : t ≡ tree = cc in subst (IsTestJob all) p h.0
tests_get all (Assign t ∷ xs) zero tree one none h e = absurd (cc e)
tests_get all (Jumped to ∷ xs) zero tree one none h e = absurd (cc e)
tests_get all (Ended ∷ xs) zero tree one none h e = absurd (cc e)
tests_get all (Tested t a b ∷ xs) (suc k) tree one none h e = tests_get all xs k tree one none h.1 e
tests_get all (Assign t ∷ xs) (suc k) tree one none h e = tests_get all xs k tree one none h.1 e
tests_get all (Jumped to ∷ xs) (suc k) tree one none h e = tests_get all xs k tree one none h e
tests_get all (Ended ∷ xs) (suc k) tree one none h e = tests_get all xs k tree one none h e

-- the job of a test's part
pub test_job_of : (all : List JobModel) (forms : List FormModel) (flow : List Flow) (parts : List LayoutPart) (k : ℕ) (f : BranchedTest) → PartsFit forms flow 0 flow parts → AreFlowJobs all flow → slice_get parts k ≡ Some (Test f) → IsTestJob all f.tree
test_job_of all forms flow parts k f fit tests e =
    let l : k < length parts = slice_get_within parts k (Test f) e in
    let n : length parts ≡ length flow = fit_length forms flow 0 flow parts fit in
    let g = there flow k (omega (arith, l, n)) in
    let q = part_at forms flow 0 flow parts k k g.0 fit g.1 (omega arith) in
    by g.0 g.1 (subst (λ x. FitsPart forms flow k g.0 x) (same_Some q.0 (Test f) (sym q.1 ∙ e)) q.2)
  where
    by : (g : Flow) → slice_get flow k ≡ Some g → FitsPart forms flow k g (Test f) → IsTestJob all f.tree
    by (Tested tree a b) at h = subst (IsTestJob all) (sym h.0) (tests_get all flow k tree a b tests at)
    by (Assign tree) at h = absurd h
    by (Jumped to) at h = absurd h
    by Ended at h = absurd h
