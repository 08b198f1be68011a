-- What is known before and behind each part of a statement that is lowered.
use Rattle.std.proofs.Common.{ℕ, ◌≡◌, ◌≤◌, ◌<◌, ◌+◌, ◌*◌, ◌^◌, List, [], ◌∷◌, ◌++◌, map, length, Option, Some, None, sym, ◌∙◌, ap, subst, arith, append_assoc}
use Rattle.std.proofs.lemmas.List.{length-append}
use Rattle.std.specs.declared.alloc.Global.{Global}
use Rattle.std.specs.declared.vec.Vec.{Vec}
use Rattle.src_model.specs.declared.program.SrcTest.{SrcTest}
use Rattle.src_model.specs.declared.program.Stmt.{Stmt, If, While, For}
use Rattle.src_model.specs.Written.{StmtModel, choice, while, count, StmtsModel, without, otherwise, model_of_stmt, stmts_of, model_of_src_test, SrcTestModel}
use Rattle.src_model.specs.Sizes.{statements, statements_in}
use Rattle.src_model.proofs.Views.{stmt_If, stmt_While, stmt_For, else_stmts}
use Rattle.code_model.specs.declared.image.Place.{Place as VariablePlace}
use Rattle.form_model.specs.declared.trees.Job.{Job}
use Rattle.form_model.specs.declared.flow.Flow.{Flow}
use Rattle.src_trees.specs.Lowered.{MemoryMap, JobModel, stmt_jobs, jobs_in}
use Rattle.src_trees.specs.Flows.{places_for, flow_in}
use Rattle.src_trees.specs.Jobs.{models_of_jobs}
use Rattle.src_trees.specs.Inner.Lowering.{IsPlain, ArePlain, IsReady, IsLowered, AreLowered}
use Rattle.src_trees.proofs.Parts.{flow_length, in_length, stmt_jobs_length, jobs_in_length}
use Rattle.src_trees.proofs.LowerLemmas.{places_few, in_few, jobs_length}

-- ---- what statements are

abbrev pub block_stmts : List Stmt → StmtsModel
block_stmts l = stmts_of (map model_of_stmt l)

pub if_is : (s : Stmt) (test : SrcTest) (v : Vec Stmt Global) (o : Option (Vec Stmt Global)) (l : List Stmt) → s ≡ If test v o → l ≡ v.items → model_of_stmt s ≡ choice (model_of_src_test test) (block_stmts l) (else_stmts o)
if_is s test v o l is e = ap model_of_stmt is ∙ stmt_If test v o ∙ ap (λ x. choice (model_of_src_test test) (block_stmts x) (else_stmts o)) (sym e)

pub if_none : (s : Stmt) (test : SrcTest) (v : Vec Stmt Global) (o : Option (Vec Stmt Global)) (l : List Stmt) → s ≡ If test v o → l ≡ v.items → o ≡ None → model_of_stmt s ≡ choice (model_of_src_test test) (block_stmts l) without
if_none s test v o l is e n = if_is s test v o l is e ∙ ap (λ x. choice (model_of_src_test test) (block_stmts l) (else_stmts x)) n

pub if_some : (s : Stmt) (test : SrcTest) (v w : Vec Stmt Global) (o : Option (Vec Stmt Global)) (l k : List Stmt) → s ≡ If test v o → l ≡ v.items → o ≡ Some w → k ≡ w.items → model_of_stmt s ≡ choice (model_of_src_test test) (block_stmts l) (otherwise (block_stmts k))
if_some s test v w o l k is e n f = if_is s test v o l is e ∙ ap (λ x. choice (model_of_src_test test) (block_stmts l) (else_stmts x)) n ∙ ap (λ x. choice (model_of_src_test test) (block_stmts l) (otherwise (block_stmts x))) (sym f)

pub while_is : (s : Stmt) (test : SrcTest) (v : Vec Stmt Global) (l : List Stmt) → s ≡ While test v → l ≡ v.items → model_of_stmt s ≡ while (model_of_src_test test) (block_stmts l)
while_is s test v l is e = ap model_of_stmt is ∙ stmt_While test v ∙ ap (λ x. while (model_of_src_test test) (block_stmts x)) (sym e)

pub for_is : (s : Stmt) (counter : List ℕ) (at from to : ℕ) (v : Vec Stmt Global) (l : List Stmt) → s ≡ For counter at from to v → l ≡ v.items → model_of_stmt s ≡ count counter at from to (block_stmts l)
for_is s counter at from to v l is e = ap model_of_stmt is ∙ stmt_For counter at from to v ∙ ap (λ x. count counter at from to (block_stmts x)) (sym e)

-- ---- what is known before a part

pub record May (word : ℕ) (places : List VariablePlace) (at : ℕ) (jobs : List Job) (list : StmtsModel) (a : StmtModel) : Type 0 where
  pub less : statements_in list + 1 ≤ statements a
  pub ready : IsReady at jobs (statements_in list)
  pub plain : ArePlain word places list

-- how many jobs and places the lowering of statements gives
pub record Counted (list : StmtsModel) (old new : List Job) (made : List Flow) : Type 0 where
  pub jobs : length new ≡ length old + statements_in list
  pub flow : length made ≤ 2 * statements_in list

pub counted : (m : MemoryMap) (list : StmtsModel) (at : ℕ) (old new : List Job) (flow : List Flow) → AreLowered m list at old new flow → Counted list old new flow
counted m list at old new flow h = record {
  jobs = let x = jobs_length new in let y = jobs_length old in let z = ap length h.jobs_are in let w = length-append (models_of_jobs old) (jobs_in m list) in let v = jobs_in_length m list in omega (arith, x, y, z, w, v);
  flow = let e = ap length h.flow_is in let l = in_length list (length old) at in let f = in_few list in omega (arith, e, l, f);
}

module _ (word : ℕ) (places : List VariablePlace) (a : StmtModel) (at : ℕ) (old : List Job) (ready : IsReady at old (statements a)) (plain : IsPlain word places a) where
  one_long : (one : List Job) (job : Job) → one ≡ old ++ job ∷ [] → length one ≡ length old + 1
  one_long one job e = ap length e ∙ length-append old (job ∷ [])

  pub other_may : (test : SrcTestModel) (taken other : StmtsModel) (one two : List Job) (job : Job) (inner : List Flow) (n : ℕ) → a ≡ choice test taken (otherwise other) → one ≡ old ++ job ∷ [] → Counted taken one two inner → n ≡ length inner
      → May word places (at + 1 + n + 1) two other a
  other_may test taken other one two job inner n is e b k =
      let l = one_long one job e in
      let s = ap statements is in
      let p : IsPlain word places (choice test taken (otherwise other)) = subst (IsPlain word places) is plain in
      let x = ready.place in
      let y = ready.few in
      let u = b.jobs in
      let v = b.flow in
      record { less = omega (arith, s); ready = record { place = omega (arith, l, x, u, v, k); few = omega (arith, l, y, s, u) }; plain = p.2 }

  -- there is room for the step of a `for`
  pub step_may : (counter : List ℕ) (from_at from to : ℕ) (body : StmtsModel) (one two : List Job) (start test : Job) → a ≡ count counter from_at from to body → one ≡ old ++ start ∷ [] → two ≡ one ++ test ∷ [] → length two + statements_in body < 65536
  step_may counter from_at from to body one two start test is e f =
      let l = one_long one start e in
      let k = ap length f ∙ length-append one (test ∷ []) in
      let s = ap statements is in
      let y = ready.few in
      omega (arith, l, k, y, s)

  -- there is room for the flow
  pub room : (list : StmtsModel) (one two : List Job) (inner slice : List Flow) → statements_in list + 1 ≤ statements a → Counted list one two inner → slice ≡ inner → at + length slice + 8 < 2 ^ 32
  room list one two inner slice less b e =
      let x = ready.place in
      let y = ready.few in
      let v = b.flow in
      let l = ap length e in
      omega (arith, x, y, v, l, less)

  pub room_both : (taken other : StmtsModel) (one two three : List Job) (inner after slice more : List Flow) → statements_in taken + 1 + statements_in other ≤ statements a → Counted taken one two inner → Counted other two three after → slice ≡ inner → more ≡ after
      → at + length slice + length more + 8 < 2 ^ 32
  room_both taken other one two three inner after slice more less b c e f =
      let x = ready.place in
      let y = ready.few in
      let v = b.flow in
      let w = c.flow in
      let l = ap length e in
      let k = ap length f in
      omega (arith, x, y, v, w, l, k, less)

-- ---- statements one after the other

module _ (m : MemoryMap) (left rest : List Stmt) (s : Stmt) (is : left ≡ s ∷ rest) (place n : ℕ) (jobs next : List Job) (more : List Flow) (h : IsLowered m (model_of_stmt s) place jobs next more) (e : n ≡ length more) where
  next_long : length next ≡ length jobs + statements (model_of_stmt s)
  next_long = let x = jobs_length next in let y = jobs_length jobs in let z = ap length h.jobs_are in let w = length-append (models_of_jobs jobs) (stmt_jobs m (model_of_stmt s)) in let v = stmt_jobs_length m (model_of_stmt s) in omega (arith, x, y, z, w, v)

  more_long : n ≡ places_for (model_of_stmt s)
  more_long = e ∙ ap length h.flow_is ∙ flow_length (model_of_stmt s) (length jobs) place

  pub flow_on : (flow new slice whole : List Flow) → new ≡ flow ++ slice → slice ≡ more → flow ++ flow_in (block_stmts left) (length jobs) place ≡ whole → new ++ flow_in (block_stmts rest) (length next) (place + n) ≡ whole
  flow_on flow new slice whole p q w =
      (λ j. p j ++ flow_in (block_stmts rest) (next_long j) (place + more_long j))
      ∙ append_assoc flow slice _
      ∙ ap (λ xs. flow ++ (xs ++ flow_in (block_stmts rest) (length jobs + statements (model_of_stmt s)) (place + places_for (model_of_stmt s)))) (q ∙ h.flow_is)
      ∙ ap (λ l. flow ++ flow_in (block_stmts l) (length jobs) place) (sym is) ∙ w

  pub jobs_on : (whole : List JobModel) → models_of_jobs jobs ++ jobs_in m (block_stmts left) ≡ whole → models_of_jobs next ++ jobs_in m (block_stmts rest) ≡ whole
  jobs_on whole w = ap (λ xs. xs ++ jobs_in m (block_stmts rest)) h.jobs_are ∙ append_assoc (models_of_jobs jobs) (stmt_jobs m (model_of_stmt s)) (jobs_in m (block_stmts rest)) ∙ ap (λ l. models_of_jobs jobs ++ jobs_in m (block_stmts l)) (sym is) ∙ w

  pub ready_on : IsReady place jobs (statements_in (block_stmts left)) → IsReady (place + n) next (statements_in (block_stmts rest))
  ready_on r =
      let x = r.place in
      let y = r.few in
      let k = ap (λ l. statements_in (block_stmts l)) is in
      let f = places_few (model_of_stmt s) in
      let u = next_long in
      let v = more_long in
      record { place = omega (arith, x, f, u, v); few = omega (arith, y, k, u) }

  pub few_on : IsReady place jobs (statements_in (block_stmts left)) → place + n < 2 ^ 32
  few_on r =
      let x = r.place in
      let y = r.few in
      let k = ap (λ l. statements_in (block_stmts l)) is in
      let f = places_few (model_of_stmt s) in
      let v = more_long in
      omega (arith, x, y, f, v, k)
