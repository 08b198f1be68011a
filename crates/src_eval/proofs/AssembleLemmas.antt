-- The steps of a statement as they are built: its parts as they are borrowed, and its trees as they
-- are counted.
use Rattle.std.proofs.Common.{◌≡◌, ℕ, ◌+◌, Bool, List, length, Option, Some, None, refl, sym, ap, subst, ◌∙◌}
use Rattle.std.specs.declared.alloc.Global.{Global}
use Rattle.std.specs.declared.vec.Vec.{Vec}
use Rattle.src_model.specs.declared.program.Var.{Var as Declared}
use Rattle.src_model.specs.declared.program.SrcTest.{SrcTest}
use Rattle.src_model.specs.declared.program.SrcExpr.{SrcExpr}
use Rattle.src_model.specs.declared.program.Spot.{Spot}
use Rattle.src_model.specs.declared.program.Stmt.{Stmt, If, While, For}
use Rattle.src_model.specs.declared.program.Stmt.TheVariants.{Assign as AssignMade}
use Rattle.src_model.specs.Written.{StmtModel, assign, choice, while, count, without, otherwise, model_of_stmt, model_of_src_test, model_of_spot, model_of_src_expr}
use Rattle.src_model.specs.Sizes.{statements}
use Rattle.src_model.specs.Inner.Fitting.{FitsStmt, FitsStmts}
use Rattle.src_model.specs.Meaning.{assigned, holds}
use Rattle.src_model.specs.Trace.{started, stepped, counting}
use Rattle.src_model.proofs.Views.{stmt_If, stmt_While, stmt_For, else_stmts}
use Rattle.src_eval.specs.declared.machine.Step.{Step}
use Rattle.src_eval.specs.Inner.Laid.{IsDoing, IsAsking, entry, Laid, LaidIn, Pushed, Ready, Built}
use Rattle.src_eval.proofs.BuildLemmas.{block_stmts, trees_of, asking_one, assign_built, while_ready, while_built, taken_ready, if_built, other_ready, else_built, Started, for_started, for_ready, for_built}

-- what holds of a statement, by how it is seen
seen_built : (word : ℕ) (vars : List Declared) (old new : List Step) (a b : StmtModel) (next : ℕ) → a ≡ b → Built word old new (statements b) (λ last. Laid word vars last b (length old) next)
    → Built word old new (statements a) (λ last. Laid word vars last a (length old) next)
seen_built word vars old new a b next e h = subst (λ x. Built word old new (statements x) (λ last. Laid word vars last x (length old) next)) (sym e) h

seen_ready : (word : ℕ) (old : List Step) (a b : StmtModel) (next : ℕ) → a ≡ b → Ready word old (statements a) next → Ready word old (statements b) next
seen_ready word old a b next e h = subst (λ x. Ready word old (statements x) next) e h

-- a block's steps, by how the block and its end are seen
block_built : (word : ℕ) (vars : List Declared) (old new : List Step) (d l : List Stmt) (tree tree' next next' : ℕ) → d ≡ l → tree ≡ tree' → next ≡ next'
    → Built word old new (trees_of d) (λ last. LaidIn word vars last (block_stmts d) tree next) → Built word old new (trees_of l) (λ last. LaidIn word vars last (block_stmts l) tree' next')
block_built word vars old new d l tree tree' next next' e f g h =
    subst (λ n. Built word old new (trees_of l) (λ last. LaidIn word vars last (block_stmts l) tree' n)) g
    (subst (λ n. Built word old new (trees_of l) (λ last. LaidIn word vars last (block_stmts l) n next)) f
    (subst (λ x. Built word old new (trees_of x) (λ last. LaidIn word vars last (block_stmts x) tree next)) e h))

asked : (word : ℕ) (old new : List Step) (question : List ℕ → Bool) (a a' b b' : ℕ) → a ≡ a' → b ≡ b' → Pushed word old new (IsAsking question a b) → Pushed word old new (IsAsking question a' b')
asked word old new question a a' b b' e f p = subst (λ n. Pushed word old new (IsAsking question a' n)) f (subst (λ n. Pushed word old new (IsAsking question n b)) e p)

-- what a block is given
pub record May (word : ℕ) (steps : List Step) (d : List Stmt) (next : ℕ) : Type 0 where
  pub ready : Ready word steps (trees_of d) next
  pub fits : FitsStmts word (block_stmts d)

may_seen : (word : ℕ) (steps : List Step) (d l : List Stmt) (next next' : ℕ) → d ≡ l → next ≡ next' → May word steps l next' → May word steps d next
may_seen word steps d l next next' e f m = subst (λ n. May word steps d n) (sym f) (subst (λ x. May word steps x next') (sym e) m)

pub assign_all : (word : ℕ) (vars : List Declared) (old new : List Step) (s : Stmt) (place : Spot) (e : SrcExpr) (next : ℕ) → s ≡ AssignMade place e
    → Pushed word old new (IsDoing (assigned word vars (model_of_spot place) (model_of_src_expr e)) next) → Ready word old (statements (model_of_stmt s)) next
    → Built word old new (statements (model_of_stmt s)) (λ last. Laid word vars last (model_of_stmt s) (length old) next)
assign_all word vars old new s place e next is p r =
    let seen : model_of_stmt s ≡ assign (model_of_spot place) (model_of_src_expr e) = ap model_of_stmt is in
    seen_built word vars old new (model_of_stmt s) (assign (model_of_spot place) (model_of_src_expr e)) next seen
    (assign_built word vars old new (model_of_spot place) (model_of_src_expr e) next p (seen_ready word old (model_of_stmt s) _ next seen r))

-- ---- `while`

module _ (word : ℕ) (vars : List Declared) (old mid : List Step) (s : Stmt) (test : SrcTest) (body : Vec Stmt Global) (next tree e : ℕ)
    (is : s ≡ While test body) (at : tree ≡ length old) (entered : e ≡ entry (block_stmts body.items) (tree + 1) tree)
    (p : Pushed word old mid (IsAsking (holds word vars (model_of_src_test test)) e next)) (r : Ready word old (statements (model_of_stmt s)) next) where
  while_seen : model_of_stmt s ≡ while (model_of_src_test test) (block_stmts body.items)
  while_seen = ap model_of_stmt is ∙ stmt_While test body

  pub while_may : (d : List Stmt) → d ≡ body.items → FitsStmt word (model_of_stmt s) → May word mid d tree
  while_may d same f =
      let g : FitsStmt word (while (model_of_src_test test) (block_stmts body.items)) = subst (FitsStmt word) while_seen f in
      may_seen word mid d body.items tree (length old) same at
      (record { ready = while_ready word vars old mid (model_of_src_test test) (block_stmts body.items) next e p (seen_ready word old (model_of_stmt s) _ next while_seen r); fits = g.1 })

  pub while_all : (new : List Step) (d : List Stmt) → d ≡ body.items → Built word mid new (trees_of d) (λ last. LaidIn word vars last (block_stmts d) (length mid) tree)
      → Built word old new (statements (model_of_stmt s)) (λ last. Laid word vars last (model_of_stmt s) (length old) next)
  while_all new d same b =
      let to : e ≡ entry (block_stmts body.items) (length old + 1) (length old) = entered ∙ ap (λ n. entry (block_stmts body.items) (n + 1) n) at in
      seen_built word vars old new (model_of_stmt s) _ next while_seen
      (while_built word vars old mid new (model_of_src_test test) (block_stmts body.items) next (asked word old mid (holds word vars (model_of_src_test test)) e _ next next to refl p)
      (seen_ready word old (model_of_stmt s) _ next while_seen r)
      (block_built word vars mid new d body.items (length mid) (length mid) tree (length old) same refl at b))

-- ---- `if`

module _ (word : ℕ) (vars : List Declared) (old mid : List Step) (s : Stmt) (test : SrcTest) (v : Vec Stmt Global) (o : Option (Vec Stmt Global)) (next tree e : ℕ)
    (is : s ≡ If test v o) (none : o ≡ None) (at : tree ≡ length old) (entered : e ≡ entry (block_stmts v.items) (tree + 1) next)
    (p : Pushed word old mid (IsAsking (holds word vars (model_of_src_test test)) e next)) (r : Ready word old (statements (model_of_stmt s)) next) where
  if_seen : model_of_stmt s ≡ choice (model_of_src_test test) (block_stmts v.items) without
  if_seen = ap model_of_stmt is ∙ stmt_If test v o ∙ ap (λ x. choice (model_of_src_test test) (block_stmts v.items) (else_stmts x)) none

  pub if_may : (d : List Stmt) → d ≡ v.items → FitsStmt word (model_of_stmt s) → May word mid d next
  if_may d same f =
      let g : FitsStmt word (choice (model_of_src_test test) (block_stmts v.items) without) = subst (FitsStmt word) if_seen f in
      may_seen word mid d v.items next next same refl
      (record { ready = taken_ready word vars old mid (model_of_src_test test) (block_stmts v.items) 0 next e next p (seen_ready word old (model_of_stmt s) _ next if_seen r); fits = g.1 })

  pub if_all : (new : List Step) (d : List Stmt) → d ≡ v.items → Built word mid new (trees_of d) (λ last. LaidIn word vars last (block_stmts d) (length mid) next)
      → Built word old new (statements (model_of_stmt s)) (λ last. Laid word vars last (model_of_stmt s) (length old) next)
  if_all new d same b =
      let to : e ≡ entry (block_stmts v.items) (length old + 1) next = entered ∙ ap (λ n. entry (block_stmts v.items) (n + 1) next) at in
      seen_built word vars old new (model_of_stmt s) _ next if_seen
      (if_built word vars old mid new (model_of_src_test test) (block_stmts v.items) next (asked word old mid (holds word vars (model_of_src_test test)) e _ next next to refl p)
      (seen_ready word old (model_of_stmt s) _ next if_seen r)
      (block_built word vars mid new d v.items (length mid) (length mid) next next same refl refl b))

-- ---- `if` with `else`

module _ (word : ℕ) (vars : List Declared) (old mid : List Step) (s : Stmt) (test : SrcTest) (v w : Vec Stmt Global) (o : Option (Vec Stmt Global)) (next tree n e f : ℕ)
    (is : s ≡ If test v o) (some : o ≡ Some w) (at : tree ≡ length old) (counted : n ≡ trees_of v.items) (entered : e ≡ entry (block_stmts v.items) (tree + 1) next)
    (other : f ≡ entry (block_stmts w.items) (tree + 1 + n) next)
    (p : Pushed word old mid (IsAsking (holds word vars (model_of_src_test test)) e f)) (r : Ready word old (statements (model_of_stmt s)) next) where
  else_seen : model_of_stmt s ≡ choice (model_of_src_test test) (block_stmts v.items) (otherwise (block_stmts w.items))
  else_seen = ap model_of_stmt is ∙ stmt_If test v o ∙ ap (λ x. choice (model_of_src_test test) (block_stmts v.items) (else_stmts x)) some

  else_fits : FitsStmt word (model_of_stmt s) → FitsStmt word (choice (model_of_src_test test) (block_stmts v.items) (otherwise (block_stmts w.items)))
  else_fits h = subst (FitsStmt word) else_seen h

  pub taken_may : (d : List Stmt) → d ≡ v.items → FitsStmt word (model_of_stmt s) → May word mid d next
  taken_may d same h =
      may_seen word mid d v.items next next same refl
      (record { ready = taken_ready word vars old mid (model_of_src_test test) (block_stmts v.items) (trees_of w.items) next e f p (seen_ready word old (model_of_stmt s) _ next else_seen r); fits = (else_fits h).1 })

  pub other_may : (high : List Step) (d c : List Stmt) → d ≡ v.items → c ≡ w.items → Built word mid high (trees_of d) (λ last. LaidIn word vars last (block_stmts d) (length mid) next)
      → FitsStmt word (model_of_stmt s) → May word high c next
  other_may high d c same that b h =
      let one = asking_one word old mid (holds word vars (model_of_src_test test)) e f p r.all in
      may_seen word high c w.items next next that refl
      (record {
        ready = other_ready word old mid high (trees_of v.items) (trees_of w.items) next (λ last. LaidIn word vars last (block_stmts v.items) (length mid) next) one.longer one.keeps
            (block_built word vars mid high d v.items (length mid) (length mid) next next same refl refl b) (seen_ready word old (model_of_stmt s) _ next else_seen r);
        fits = (else_fits h).2;
      })

  pub else_all : (high new : List Step) (d c : List Stmt) → d ≡ v.items → c ≡ w.items → Built word mid high (trees_of d) (λ last. LaidIn word vars last (block_stmts d) (length mid) next)
      → Built word high new (trees_of c) (λ last. LaidIn word vars last (block_stmts c) (length high) next)
      → Built word old new (statements (model_of_stmt s)) (λ last. Laid word vars last (model_of_stmt s) (length old) next)
  else_all high new d c same that b a =
      let to : e ≡ entry (block_stmts v.items) (length old + 1) next = entered ∙ ap (λ n. entry (block_stmts v.items) (n + 1) next) at in
      let past : f ≡ entry (block_stmts w.items) (length old + 1 + trees_of v.items) next = other ∙ (λ j. entry (block_stmts w.items) (at j + 1 + counted j) next) in
      seen_built word vars old new (model_of_stmt s) _ next else_seen
      (else_built word vars old mid high new (model_of_src_test test) (block_stmts v.items) (block_stmts w.items) next (asked word old mid (holds word vars (model_of_src_test test)) e _ f _ to past p)
      (seen_ready word old (model_of_stmt s) _ next else_seen r)
      (block_built word vars mid high d v.items (length mid) (length mid) next next same refl refl b)
      (block_built word vars high new c w.items (length high) (length high) next next that refl refl a))

-- ---- `for`

module _ (word : ℕ) (vars : List Declared) (old low mid : List Step) (s : Stmt) (counter : List ℕ) (at from to : ℕ) (body : Vec Stmt Global) (next tree n e : ℕ)
    (is : s ≡ For counter at from to body) (here : tree ≡ length old) (counted : n ≡ trees_of body.items) (entered : e ≡ entry (block_stmts body.items) (tree + 2) (tree + 2 + n))
    (p : Pushed word old low (IsDoing (started vars counter from) (tree + 1))) (q : Pushed word low mid (IsAsking (counting vars counter to) e next))
    (r : Ready word old (statements (model_of_stmt s)) next) where
  for_seen : model_of_stmt s ≡ count counter at from to (block_stmts body.items)
  for_seen = ap model_of_stmt is ∙ stmt_For counter at from to body

  begun : Started word vars old low mid counter from to (entry (block_stmts body.items) (length old + 2) (length old + 2 + trees_of body.items)) next
  begun =
      for_started word vars old low mid counter from to (entry (block_stmts body.items) (length old + 2) (length old + 2 + trees_of body.items)) next (statements (model_of_stmt s))
      (subst (λ k. Pushed word old low (IsDoing (started vars counter from) (k + 1))) here p)
      (asked word low mid (counting vars counter to) e _ next next (entered ∙ (λ j. entry (block_stmts body.items) (here j + 2) (here j + 2 + counted j))) refl q) r

  ends : tree + 2 + n ≡ length old + 2 + trees_of body.items
  ends = λ j. here j + 2 + counted j

  pub for_may : (d : List Stmt) → d ≡ body.items → FitsStmt word (model_of_stmt s) → May word mid d (tree + 2 + n)
  for_may d same f =
      let g : FitsStmt word (count counter at from to (block_stmts body.items)) = subst (FitsStmt word) for_seen f in
      may_seen word mid d body.items (tree + 2 + n) (length old + 2 + trees_of body.items) same ends
      (record {
        ready = for_ready word vars old low mid counter from to (entry (block_stmts body.items) (length old + 2) (length old + 2 + trees_of body.items)) next (trees_of body.items)
            (length old + 2 + trees_of body.items) begun refl (seen_ready word old (model_of_stmt s) _ next for_seen r);
        fits = g.1;
      })

  pub for_all : (high new : List Step) (d : List Stmt) → d ≡ body.items → Built word mid high (trees_of d) (λ last. LaidIn word vars last (block_stmts d) (length mid) (tree + 2 + n))
      → Pushed word high new (IsDoing (stepped word vars counter) (tree + 1))
      → Built word old new (statements (model_of_stmt s)) (λ last. Laid word vars last (model_of_stmt s) (length old) next)
  for_all high new d same b t =
      seen_built word vars old new (model_of_stmt s) _ next for_seen
      (for_built word vars old low mid high new counter at from to next (block_stmts body.items) begun (seen_ready word old (model_of_stmt s) _ next for_seen r)
      (block_built word vars mid high d body.items (length mid) (length mid) (tree + 2 + n) (length old + 2 + trees_of body.items) same refl ends b)
      (subst (λ k. Pushed word high new (IsDoing (stepped word vars counter) (k + 1))) here t))
