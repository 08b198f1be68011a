-- The trace of a program: of two ways on that agree the program makes two that agree, and what is
-- asked for more adds at the end.
use Rattle.std.proofs.Common.{ℕ, ◌+◌, List}
use Rattle.src_model.specs.declared.checkpoint.Checkpoint.TheVariants.{At}
use Rattle.src_model.specs.declared.program.Var.{Var as Declared}
use Rattle.src_model.specs.Written.{StmtModel, assign, choice, while, count, StmtsModel, no_acts, act, ElseModel, without, otherwise}
use Rattle.src_model.specs.Sizes.{statements, statements_in}
use Rattle.src_model.specs.Ways.{Onward, choose, loop}
use Rattle.src_model.specs.Meaning.{assigned, holds}
use Rattle.src_model.specs.Trace.{started, stepped, counting, after_change, run_stmt, run_in, run_else}
use Rattle.src_model.proofs.WayLemmas.{Agree, Keeps, pass_agree_here, choose_agree, loop_agree, Whole, pass_whole, choose_whole, whole_less, loop_whole, Steady, pass_steady, choose_steady, steady_less, loop_steady}

pub after_agree : (m : ℕ) (change : List ℕ → List ℕ) (k k' : Onward) → Agree m k k' → Agree m (after_change change k) (after_change change k')
after_agree m change k k' h j le cells = h j le (change cells)

-- the body of a `for`: its statements, and then the step
abbrev pub counted_body : ℕ → List Declared → List ℕ → StmtsModel → ℕ → Onward → Onward
counted_body word vars counter body tree again = run_in word vars body tree (after_change (stepped word vars counter) again)

mutual
  unfolding run_stmt run_in run_else

  pub run_agree : (word : ℕ) (vars : List Declared) (a : StmtModel) (tree m : ℕ) (k k' : Onward) → Agree m k k' → Agree m (run_stmt word vars a tree k) (run_stmt word vars a tree k')
  run_agree word vars (assign place e) tree m k k' h = after_agree m (assigned word vars place e) k k' h
  run_agree word vars (choice test taken other) tree m k k' h =
      pass_agree_here m (At tree)
      (choose (holds word vars test) (run_in word vars taken (tree + 1) k) (run_else word vars other (tree + 1 + statements_in taken) k))
      (choose (holds word vars test) (run_in word vars taken (tree + 1) k') (run_else word vars other (tree + 1 + statements_in taken) k'))
      (choose_agree m (holds word vars test) (run_in word vars taken (tree + 1) k) (run_in word vars taken (tree + 1) k')
      (run_else word vars other (tree + 1 + statements_in taken) k) (run_else word vars other (tree + 1 + statements_in taken) k')
      (in_agree word vars taken (tree + 1) m k k' h) (else_agree word vars other (tree + 1 + statements_in taken) m k k' h))
  run_agree word vars (while test body) tree m k k' h =
      loop_agree m (At tree) (holds word vars test) (run_in word vars body (tree + 1)) k k' (λ i r r' a. in_agree word vars body (tree + 1) i r r' a) h
  run_agree word vars (count counter at from to body) tree m k k' h =
      after_agree m (started vars counter from)
      (loop (At (tree + 1)) (counting vars counter to) (counted_body word vars counter body (tree + 2)) k)
      (loop (At (tree + 1)) (counting vars counter to) (counted_body word vars counter body (tree + 2)) k')
      (loop_agree m (At (tree + 1)) (counting vars counter to) (counted_body word vars counter body (tree + 2)) k k'
      (λ i r r' a. in_agree word vars body (tree + 2) i (after_change (stepped word vars counter) r) (after_change (stepped word vars counter) r') (after_agree i (stepped word vars counter) r r' a)) h)

  pub in_agree : (word : ℕ) (vars : List Declared) (list : StmtsModel) (tree m : ℕ) (k k' : Onward) → Agree m k k' → Agree m (run_in word vars list tree k) (run_in word vars list tree k')
  in_agree word vars no_acts tree m k k' h = h
  in_agree word vars (act a rest) tree m k k' h =
      run_agree word vars a tree m (run_in word vars rest (tree + statements a) k) (run_in word vars rest (tree + statements a) k') (in_agree word vars rest (tree + statements a) m k k' h)

  pub else_agree : (word : ℕ) (vars : List Declared) (o : ElseModel) (tree m : ℕ) (k k' : Onward) → Agree m k k' → Agree m (run_else word vars o tree k) (run_else word vars o tree k')
  else_agree word vars without tree m k k' h = h
  else_agree word vars (otherwise body) tree m k k' h = in_agree word vars body tree m k k' h

pub body_keeps : (word : ℕ) (vars : List Declared) (body : StmtsModel) (tree : ℕ) → Keeps (run_in word vars body tree)
body_keeps word vars body tree m k k' h = in_agree word vars body tree m k k' h

pub counted_keeps : (word : ℕ) (vars : List Declared) (counter : List ℕ) (body : StmtsModel) (tree : ℕ) → Keeps (counted_body word vars counter body tree)
counted_keeps word vars counter body tree m k k' h =
    in_agree word vars body tree m (after_change (stepped word vars counter) k) (after_change (stepped word vars counter) k') (after_agree m (stepped word vars counter) k k' h)

-- ---- as many checkpoints as are asked for, or the end among them

after_whole : (m : ℕ) (change : List ℕ → List ℕ) (k : Onward) → Whole m k → Whole m (after_change change k)
after_whole m change k h j le cells = h j le (change cells)

mutual
  unfolding run_stmt run_in run_else

  run_whole : (word : ℕ) (vars : List Declared) (a : StmtModel) (tree m : ℕ) (k : Onward) → Whole m k → Whole m (run_stmt word vars a tree k)
  run_whole word vars (assign place e) tree m k h = after_whole m (assigned word vars place e) k h
  run_whole word vars (choice test taken other) tree m k h =
      let chosen : Onward = choose (holds word vars test) (run_in word vars taken (tree + 1) k) (run_else word vars other (tree + 1 + statements_in taken) k) in
      whole_less m _ (pass_whole m (At tree) chosen
      (choose_whole m (holds word vars test) (run_in word vars taken (tree + 1) k) (run_else word vars other (tree + 1 + statements_in taken) k)
      (in_whole word vars taken (tree + 1) m k h) (else_whole word vars other (tree + 1 + statements_in taken) m k h)))
  run_whole word vars (while test body) tree m k h =
      loop_whole m (At tree) (holds word vars test) (run_in word vars body (tree + 1)) k (body_keeps word vars body (tree + 1))
      (λ i r a. in_whole word vars body (tree + 1) i r a) h
  run_whole word vars (count counter at from to body) tree m k h =
      after_whole m (started vars counter from) (loop (At (tree + 1)) (counting vars counter to) (counted_body word vars counter body (tree + 2)) k)
      (loop_whole m (At (tree + 1)) (counting vars counter to) (counted_body word vars counter body (tree + 2)) k (counted_keeps word vars counter body (tree + 2))
      (λ i r a. in_whole word vars body (tree + 2) i (after_change (stepped word vars counter) r) (after_whole i (stepped word vars counter) r a)) h)

  pub in_whole : (word : ℕ) (vars : List Declared) (list : StmtsModel) (tree m : ℕ) (k : Onward) → Whole m k → Whole m (run_in word vars list tree k)
  in_whole word vars no_acts tree m k h = h
  in_whole word vars (act a rest) tree m k h = run_whole word vars a tree m (run_in word vars rest (tree + statements a) k) (in_whole word vars rest (tree + statements a) m k h)

  else_whole : (word : ℕ) (vars : List Declared) (o : ElseModel) (tree m : ℕ) (k : Onward) → Whole m k → Whole m (run_else word vars o tree k)
  else_whole word vars without tree m k h = h
  else_whole word vars (otherwise body) tree m k h = in_whole word vars body tree m k h

-- ---- what is asked for more adds at the end

after_steady : (m : ℕ) (change : List ℕ → List ℕ) (k : Onward) → Steady m k → Steady m (after_change change k)
after_steady m change k h j le cells = h j le (change cells)

mutual
  unfolding run_stmt run_in run_else

  run_steady : (word : ℕ) (vars : List Declared) (a : StmtModel) (tree m : ℕ) (k : Onward) → Steady m k → Steady m (run_stmt word vars a tree k)
  run_steady word vars (assign place e) tree m k h = after_steady m (assigned word vars place e) k h
  run_steady word vars (choice test taken other) tree m k h =
      let chosen : Onward = choose (holds word vars test) (run_in word vars taken (tree + 1) k) (run_else word vars other (tree + 1 + statements_in taken) k) in
      steady_less m _ (pass_steady m (At tree) chosen
      (choose_steady m (holds word vars test) (run_in word vars taken (tree + 1) k) (run_else word vars other (tree + 1 + statements_in taken) k)
      (in_steady word vars taken (tree + 1) m k h) (else_steady word vars other (tree + 1 + statements_in taken) m k h)))
  run_steady word vars (while test body) tree m k h =
      loop_steady m (At tree) (holds word vars test) (run_in word vars body (tree + 1)) k (body_keeps word vars body (tree + 1))
      (λ i r a. in_steady word vars body (tree + 1) i r a) h
  run_steady word vars (count counter at from to body) tree m k h =
      after_steady m (started vars counter from) (loop (At (tree + 1)) (counting vars counter to) (counted_body word vars counter body (tree + 2)) k)
      (loop_steady m (At (tree + 1)) (counting vars counter to) (counted_body word vars counter body (tree + 2)) k (counted_keeps word vars counter body (tree + 2))
      (λ i r a. in_steady word vars body (tree + 2) i (after_change (stepped word vars counter) r) (after_steady i (stepped word vars counter) r a)) h)

  pub in_steady : (word : ℕ) (vars : List Declared) (list : StmtsModel) (tree m : ℕ) (k : Onward) → Steady m k → Steady m (run_in word vars list tree k)
  in_steady word vars no_acts tree m k h = h
  in_steady word vars (act a rest) tree m k h = run_steady word vars a tree m (run_in word vars rest (tree + statements a) k) (in_steady word vars rest (tree + statements a) m k h)

  else_steady : (word : ℕ) (vars : List Declared) (o : ElseModel) (tree m : ℕ) (k : Onward) → Steady m k → Steady m (run_else word vars o tree k)
  else_steady word vars without tree m k h = h
  else_steady word vars (otherwise body) tree m k h = in_steady word vars body tree m k h
