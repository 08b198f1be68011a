-- The sizes of statements, by their parts.
use Rattle.std.proofs.Common.{◌≡◌, ℕ, ◌+◌, max, List, [], ◌∷◌, ◌++◌, map, Option, refl, ap, ◌∙◌, arith, eq-eqb, if◌then◌else◌}
use Rattle.std.specs.declared.alloc.Global.{Global}
use Rattle.std.specs.declared.vec.Vec.{Vec}
use Rattle.src_model.specs.declared.sizes.Sizes.{Sizes}
use Rattle.src_model.specs.declared.program.Stmt.{Stmt, If, While, For}
use Rattle.src_model.specs.declared.program.SrcTest.{SrcTest}
use Rattle.src_model.specs.Written.{StmtsModel, model_of_stmt, stmts_of, model_of_src_test}
use Rattle.src_model.specs.Sizes.{Root, roots, roots_in, roots_else, start_roots, step_roots, tested_roots, greatest, nodes_of, temps_of, is_word, statements, statements_in, statements_else, measured, together}
use Rattle.rec_bits.specs.Counts.{capped}
use Rattle.src_model.proofs.Views.{stmt_If, stmt_While, stmt_For, else_stmts}

pub greatest_append : (f : Root → ℕ) (xs ys : List Root) → greatest f (xs ++ ys) ≡ max (greatest f xs) (greatest f ys)
greatest_append f [] ys = omega arith
greatest_append f (x ∷ xs) ys = omega (arith, greatest_append f xs ys)

-- the sizes of some statements and more of them
pub measured_append : (word : ℕ) (xs ys : List Root) (n m : ℕ) → measured word (xs ++ ys) (n + m) ≡ together (measured word xs n) (measured word ys m)
measured_append word xs ys n m =
    let a : capped (n + m) ≡ capped (capped n + capped m) = omega arith in
    let b : capped (greatest nodes_of (xs ++ ys)) ≡ max (capped (greatest nodes_of xs)) (capped (greatest nodes_of ys)) = omega (arith, greatest_append nodes_of xs ys) in
    let d : capped (greatest (temps_of word) (xs ++ ys)) ≡ max (capped (greatest (temps_of word) xs)) (capped (greatest (temps_of word) ys)) = omega (arith, greatest_append (temps_of word) xs ys) in
    λ j. record { statements = a j; nodes = b j; temps = d j }

-- the sizes of a block, and of a list of statements
abbrev pub stmts_measured : ℕ → StmtsModel → Sizes
stmts_measured word stmts = measured word (roots_in stmts) (statements_in stmts)

abbrev pub list_measured : ℕ → List Stmt → Sizes
list_measured word list = stmts_measured word (stmts_of (map model_of_stmt list))

abbrev pub stmt_measured : ℕ → Stmt → Sizes
stmt_measured word s = measured word (roots (model_of_stmt s)) (statements (model_of_stmt s))

abbrev pub test_measured : ℕ → SrcTest → Sizes
test_measured word test = measured word (tested_roots (model_of_src_test test)) 1

module _ (word : ℕ) where
  pub while_measured : (s : Stmt) (test : SrcTest) (body : Vec Stmt Global) → s ≡ While test body → stmt_measured word s ≡ together (test_measured word test) (list_measured word body.items)
  while_measured s test body is = ap (λ a. measured word (roots a) (statements a)) (ap model_of_stmt is ∙ stmt_While test body)
      ∙ measured_append word (tested_roots (model_of_src_test test)) (roots_in (stmts_of (map model_of_stmt body.items))) 1 (statements_in (stmts_of (map model_of_stmt body.items)))

  -- the start, the test and the step of a `for`
  abbrev pub for_sizes : Sizes
  for_sizes = record { statements = 3; nodes = 5; temps = 3 }

  same_is_word : (n : ℕ) → is_word n n ≡ 1
  same_is_word n = ap (λ b. if b then 1 else 0) (eq-eqb n n refl)

  for_whole : (counter : List ℕ) (at from to : ℕ) (stmts : StmtsModel) → measured word (start_roots counter at from to ++ roots_in stmts ++ step_roots counter at) (3 + statements_in stmts) ≡ together for_sizes (stmts_measured word stmts)
  for_whole counter at from to stmts =
      let one = same_is_word word in
      let a : capped (3 + statements_in stmts) ≡ capped (3 + capped (statements_in stmts)) = omega arith in
      let b : capped (greatest nodes_of (start_roots counter at from to ++ roots_in stmts ++ step_roots counter at)) ≡ max 5 (capped (greatest nodes_of (roots_in stmts)))
      = omega (arith, greatest_append nodes_of (roots_in stmts) (step_roots counter at)) in
      let d : capped (greatest (temps_of word) (start_roots counter at from to ++ roots_in stmts ++ step_roots counter at)) ≡ max 3 (capped (greatest (temps_of word) (roots_in stmts)))
      = omega (arith, one, greatest_append (temps_of word) (roots_in stmts) (step_roots counter at)) in
      λ j. record { statements = a j; nodes = b j; temps = d j }

  pub for_measured : (s : Stmt) (counter : List ℕ) (at from to : ℕ) (body : Vec Stmt Global) → s ≡ For counter at from to body → stmt_measured word s ≡ together for_sizes (list_measured word body.items)
  for_measured s counter at from to body is = ap (λ a. measured word (roots a) (statements a)) (ap model_of_stmt is ∙ stmt_For counter at from to body)
      ∙ for_whole counter at from to (stmts_of (map model_of_stmt body.items))

  pub if_measured : (s : Stmt) (test : SrcTest) (taken : Vec Stmt Global) (other : Option (Vec Stmt Global)) → s ≡ If test taken other
      → stmt_measured word s ≡ together (together (test_measured word test) (list_measured word taken.items)) (measured word (roots_else (else_stmts other)) (statements_else (else_stmts other)))
  if_measured s test taken other is = ap (λ a. measured word (roots a) (statements a)) (ap model_of_stmt is ∙ stmt_If test taken other)
      ∙ measured_append word (tested_roots (model_of_src_test test) ++ roots_in (stmts_of (map model_of_stmt taken.items))) (roots_else (else_stmts other)) (1 + statements_in (stmts_of (map model_of_stmt taken.items))) (statements_else (else_stmts other))
      ∙ ap (λ m. together m (measured word (roots_else (else_stmts other)) (statements_else (else_stmts other)))) (measured_append word (tested_roots (model_of_src_test test)) (roots_in (stmts_of (map model_of_stmt taken.items))) 1 (statements_in (stmts_of (map model_of_stmt taken.items))))

  -- nothing more adds nothing
  pub without_more : (xs ys : Sizes) → together xs ys ≡ together (together xs ys) (measured word [] 0)
  without_more xs ys =
      let a : capped (xs.statements + ys.statements) ≡ capped (capped (xs.statements + ys.statements) + 0) = omega arith in
      let b : max xs.nodes ys.nodes ≡ max (max xs.nodes ys.nodes) 0 = omega arith in
      let d : max xs.temps ys.temps ≡ max (max xs.temps ys.temps) 0 = omega arith in
      λ j. record { statements = a j; nodes = b j; temps = d j }
