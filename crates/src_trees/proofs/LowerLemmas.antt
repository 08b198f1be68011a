-- What is lowered for a statement, from what is lowered for its parts.
use Rattle.std.proofs.Common.{ℕ, ◌≡◌, ◌≤◌, ◌+◌, ◌*◌, List, [], ◌∷◌, ◌++◌, IfOk, Result, Ok, Err, length, refl, sym, ◌∙◌, ap, subst, arith, append_assoc, append-nil}
use Rattle.std.proofs.lemmas.List.{length-append}
use Rattle.src_model.specs.declared.program.Cmp.TheVariants.{Ne}
use Rattle.src_model.specs.Written.{StmtModel, assign, choice, while, count, StmtsModel, no_acts, act, ElseModel, without, otherwise, SrcTestModel}
use Rattle.src_model.specs.Sizes.{statements, statements_in, statements_else}
use Rattle.form_model.specs.declared.trees.Job.{Job}
use Rattle.form_model.specs.declared.flow.Flow.{Flow}
use Rattle.form_model.specs.declared.flow.Flow.TheVariants.{Assign, Jump}
use Rattle.src_trees.specs.Lowered.{MemoryMap, JobModel, job_of_test, job_of_start, job_of_counting, job_of_step, jobs_in}
use Rattle.src_trees.specs.Flows.{places_for, places_in, places_else, asked, flow_in}
use Rattle.src_trees.specs.Jobs.{model_of_job, models_of_jobs}
use Rattle.src_trees.specs.Inner.Lowering.{IsLowered, AreLowered}
use Rattle.src_trees.proofs.Parts.{in_length, jobs_in_length}

-- ---- counts

mutual
  pub places_few : (a : StmtModel) → places_for a ≤ 2 * statements a
  places_few (assign place e) = omega arith
  places_few (choice test taken other) = let t = in_few taken in let o = else_few other in omega (arith, t, o)
  places_few (while test body) = let t = in_few body in omega (arith, t)
  places_few (count counter at from to body) = let t = in_few body in omega (arith, t)

  pub in_few : (list : StmtsModel) → places_in list ≤ 2 * statements_in list
  in_few no_acts = omega arith
  in_few (act a rest) = let t = places_few a in let o = in_few rest in omega (arith, t, o)

  else_few : (o : ElseModel) → places_else o ≤ 1 + 2 * statements_else o
  else_few without = omega arith
  else_few (otherwise body) = let t = in_few body in omega (arith, t)

jobs_more : (old : List Job) (job : Job) → models_of_jobs (old ++ job ∷ []) ≡ models_of_jobs old ++ model_of_job job ∷ []
jobs_more [] job = refl
jobs_more (j ∷ old) job = ap (λ xs. model_of_job j ∷ xs) (jobs_more old job)

-- a job more
record Pushed (old new : List Job) (job : JobModel) : Type 0 where
  long : length new ≡ length old + 1
  jobs : models_of_jobs new ≡ models_of_jobs old ++ job ∷ []

pushed : (old new : List Job) (job : Job) (model : JobModel) → new ≡ old ++ job ∷ [] → model_of_job job ≡ model → Pushed old new model
pushed old new job model e t = record {
  long = ap length e ∙ length-append old (job ∷ []);
  jobs = ap models_of_jobs e ∙ jobs_more old job ∙ ap (λ x. models_of_jobs old ++ x ∷ []) t;
}

-- and the jobs of statements
then_jobs : (old one two : List Job) (job : JobModel) (more : List JobModel) → Pushed old one job → models_of_jobs two ≡ models_of_jobs one ++ more → models_of_jobs two ≡ models_of_jobs old ++ (job ∷ more)
then_jobs old one two job more p e = e ∙ ap (λ xs. xs ++ more) p.jobs ∙ append_assoc (models_of_jobs old) (job ∷ []) more

pub jobs_length : (jobs : List Job) → length (models_of_jobs jobs) ≡ length jobs
jobs_length [] = refl
jobs_length (j ∷ jobs) = let h = jobs_length jobs in omega (arith, h)

-- ---- statements

module _ (m : MemoryMap) (a : StmtModel) (at : ℕ) (old : List Job) where
  module _ (test : SrcTestModel) (one : List Job) (job : Job) (n : ℕ) (t : model_of_job job ≡ job_of_test m test) (p : one ≡ old ++ job ∷ []) (k : n ≡ length old) where
    pub while_lowered : (body : StmtsModel) (two : List Job) (inner flow : List Flow) → a ≡ while test body → AreLowered m body (at + 1) one two inner
        → flow ≡ asked test.cmp n (at + 1) (at + 1 + length inner + 1) ∷ (inner ++ Jump at ∷ []) → IsLowered m a at old two flow
    while_lowered body two inner flow is b f =
        let q = pushed old one job (job_of_test m test) p t in
        let i : inner ≡ flow_in body (length old + 1) (at + 1) = b.flow_is ∙ ap (λ x. flow_in body x (at + 1)) q.long in
        let l : length inner ≡ places_in body = ap length i ∙ in_length body (length old + 1) (at + 1) in
        subst (λ x. IsLowered m x at old two flow) (sym is)
        (record { flow_is = f ∙ (λ j. asked test.cmp (k j) (at + 1) (at + 1 + l j + 1) ∷ (i j ++ Jump at ∷ [])); jobs_are = then_jobs old one two (job_of_test m test) (jobs_in m body) q b.jobs_are })

    pub if_lowered : (taken : StmtsModel) (two : List Job) (inner flow : List Flow) → a ≡ choice test taken without → AreLowered m taken (at + 1) one two inner
        → flow ≡ asked test.cmp n (at + 1) (at + 1 + length inner) ∷ (inner ++ []) → IsLowered m a at old two flow
    if_lowered taken two inner flow is b f =
        let q = pushed old one job (job_of_test m test) p t in
        let i : inner ≡ flow_in taken (length old + 1) (at + 1) = b.flow_is ∙ ap (λ x. flow_in taken x (at + 1)) q.long in
        let l : length inner ≡ places_in taken = ap length i ∙ in_length taken (length old + 1) (at + 1) in
        let e : jobs_in m taken ≡ jobs_in m taken ++ [] = sym (append-nil (jobs_in m taken)) in
        subst (λ x. IsLowered m x at old two flow) (sym is)
        (record {
          flow_is = f ∙ (λ j. asked test.cmp (k j) (at + 1) (at + 1 + l j) ∷ (i j ++ []));
          jobs_are = then_jobs old one two (job_of_test m test) (jobs_in m taken) q b.jobs_are ∙ ap (λ x. models_of_jobs old ++ (job_of_test m test ∷ x)) e;
        })

    pub else_lowered : (taken other : StmtsModel) (two three : List Job) (inner after flow : List Flow) → a ≡ choice test taken (otherwise other) → AreLowered m taken (at + 1) one two inner
        → AreLowered m other (at + 1 + length inner + 1) two three after
        → flow ≡ asked test.cmp n (at + 1) (at + 1 + length inner + 1) ∷ (inner ++ Jump (at + 1 + length inner + 1 + length after) ∷ after) → IsLowered m a at old three flow
    else_lowered taken other two three inner after flow is b c f =
        let q = pushed old one job (job_of_test m test) p t in
        let i : inner ≡ flow_in taken (length old + 1) (at + 1) = b.flow_is ∙ ap (λ x. flow_in taken x (at + 1)) q.long in
        let l : length inner ≡ places_in taken = ap length i ∙ in_length taken (length old + 1) (at + 1) in
        let two_long : length two ≡ length old + 1 + statements_in taken =
        (let x = jobs_length two in let y = jobs_length one in let z = ap length b.jobs_are in let w = length-append (models_of_jobs one) (jobs_in m taken) in let v = jobs_in_length m taken in let u = q.long in omega (arith, x, y, z, w, v, u)) in
        let g : after ≡ flow_in other (length old + 1 + statements_in taken) (at + 1 + places_in taken + 1) = c.flow_is ∙ (λ j. flow_in other (two_long j) (at + 1 + l j + 1)) in
        let h : length after ≡ places_in other = ap length g ∙ in_length other (length old + 1 + statements_in taken) (at + 1 + places_in taken + 1) in
        subst (λ x. IsLowered m x at old three flow) (sym is)
        (record {
          flow_is = f ∙ (λ j. asked test.cmp (k j) (at + 1) (at + 1 + l j + 1) ∷ (i j ++ Jump (at + 1 + l j + 1 + h j) ∷ g j));
          jobs_are = c.jobs_are ∙ ap (λ xs. xs ++ jobs_in m other) (then_jobs old one two (job_of_test m test) (jobs_in m taken) q b.jobs_are)
              ∙ append_assoc (models_of_jobs old) (job_of_test m test ∷ jobs_in m taken) (jobs_in m other);
        })

  pub for_lowered : (counter : List ℕ) (from_at from to : ℕ) (body : StmtsModel) (one two three four : List Job) (start test step : Job) (n k : ℕ) (inner flow : List Flow) → a ≡ count counter from_at from to body
      → model_of_job start ≡ job_of_start m counter from → model_of_job test ≡ job_of_counting m counter 0 to → model_of_job step ≡ job_of_step m counter → one ≡ old ++ start ∷ [] → two ≡ one ++ test ∷ [] → AreLowered m body (at + 2) two three inner
      → four ≡ three ++ step ∷ [] → n ≡ length old → k ≡ length three → flow ≡ Assign n ∷ (asked Ne (n + 1) (at + 2) (at + 2 + length inner + 2) ∷ (inner ++ Assign k ∷ (Jump (at + 1) ∷ []))) → IsLowered m a at old four flow
  for_lowered counter from_at from to body one two three four start test step n k inner flow is ts tc ti p1 p2 b p4 en ek f =
      let q1 = pushed old one start (job_of_start m counter from) p1 ts in
      let q2 = pushed one two test (job_of_counting m counter from_at to) p2 tc in
      let q4 = pushed three four step (job_of_step m counter) p4 ti in
      let two_long : length two ≡ length old + 2 = (let x = q1.long in let y = q2.long in omega (arith, x, y)) in
      let i : inner ≡ flow_in body (length old + 2) (at + 2) = b.flow_is ∙ ap (λ x. flow_in body x (at + 2)) two_long in
      let l : length inner ≡ places_in body = ap length i ∙ in_length body (length old + 2) (at + 2) in
      let three_long : length three ≡ length old + 2 + statements_in body =
      (let x = jobs_length three in let y = jobs_length two in let z = ap length b.jobs_are in let w = length-append (models_of_jobs two) (jobs_in m body) in let v = jobs_in_length m body in omega (arith, x, y, z, w, v, two_long)) in
      let e : k ≡ length old + 2 + statements_in body = ek ∙ three_long in
      let jobs : models_of_jobs three ≡ models_of_jobs old ++ (job_of_start m counter from ∷ (job_of_counting m counter from_at to ∷ jobs_in m body)) =
      then_jobs old one three (job_of_start m counter from) (job_of_counting m counter from_at to ∷ jobs_in m body) q1 (then_jobs one two three (job_of_counting m counter from_at to) (jobs_in m body) q2 b.jobs_are) in
      subst (λ x. IsLowered m x at old four flow) (sym is)
      (record {
        flow_is = f ∙ (λ j. Assign (en j) ∷ (asked Ne (en j + 1) (at + 2) (at + 2 + l j + 2) ∷ (i j ++ Assign (e j) ∷ (Jump (at + 1) ∷ []))));
        jobs_are = q4.jobs ∙ ap (λ xs. xs ++ job_of_step m counter ∷ []) jobs
            ∙ append_assoc (models_of_jobs old) (job_of_start m counter from ∷ (job_of_counting m counter from_at to ∷ jobs_in m body)) (job_of_step m counter ∷ []);
      })

-- the offset of a counter doesn't matter
pub for_at : {E : Type 0} (m : MemoryMap) (a : StmtModel) (at : ℕ) (old new : List Job) (counter : List ℕ) (from_at from to : ℕ) (body : StmtsModel) (result : Result (List Flow) E) → a ≡ count counter from_at from to body
    → IfOk result (IsLowered m (count counter 0 from to body) at old new) → IfOk result (IsLowered m a at old new)
for_at m a at old new counter from_at from to body (Ok flow) is h = subst (λ x. IsLowered m x at old new flow) (sym is) (record { flow_is = h.flow_is; jobs_are = h.jobs_are })
for_at m a at old new counter from_at from to body (Err e) is h = tt
