-- What a rule finds in statements, by their parts.
use Rattle.std.proofs.Common.{◌≡◌, ℕ, List, [], ◌∷◌, ◌++◌, map, Option, refl, ap, ◌∙◌}
use Rattle.std.specs.declared.alloc.Global.{Global}
use Rattle.std.specs.declared.vec.Vec.{Vec}
use Rattle.rec_bits.specs.Faults.{least, lesser_offset, gather}
use Rattle.rec_bits.proofs.Faults.{least_append}
use Rattle.src_model.specs.declared.program.Stmt.{Stmt, If, While, For}
use Rattle.src_model.specs.declared.program.SrcTest.{SrcTest}
use Rattle.src_model.specs.Written.{model_of_stmt, stmts_of, model_of_src_test}
use Rattle.src_model.specs.Loops.{LoopRuleModel, Round, breaks, breaks_in, breaks_else}
use Rattle.src_model.proofs.Views.{stmt_If, stmt_While, stmt_For, else_stmts}

module _ (rule : LoopRuleModel) (rounds : List Round) where
  -- what is found in a statement
  abbrev pub stmt_breaks : Stmt → List ℕ
  stmt_breaks s = breaks rule rounds (model_of_stmt s)

  -- what is found in a block is what is found in its statements, one after the other
  pub block_gathered : (block : List Stmt) → gather stmt_breaks block ≡ breaks_in rule rounds (stmts_of (map model_of_stmt block))
  block_gathered [] = refl
  block_gathered (s ∷ rest) = ap (λ l. stmt_breaks s ++ l) (block_gathered rest)

  abbrev pub list_breaks : List Stmt → List ℕ
  list_breaks block = breaks_in rule rounds (stmts_of (map model_of_stmt block))

  abbrev block_breaks : Vec Stmt Global → List ℕ
  block_breaks v = list_breaks v.items

  pub while_least : (s : Stmt) (test : SrcTest) (body : Vec Stmt Global) → s ≡ While test body
      → least (stmt_breaks s) ≡ lesser_offset (least (rule.tested rounds (model_of_src_test test))) (least (block_breaks body))
  while_least s test body is = ap (λ a. least (breaks rule rounds a)) (ap model_of_stmt is ∙ stmt_While test body) ∙ least_append (rule.tested rounds (model_of_src_test test)) (block_breaks body)

  pub if_least : (s : Stmt) (test : SrcTest) (taken : Vec Stmt Global) (other : Option (Vec Stmt Global)) → s ≡ If test taken other
      → least (stmt_breaks s) ≡ lesser_offset (lesser_offset (least (rule.tested rounds (model_of_src_test test))) (least (block_breaks taken))) (least (breaks_else rule rounds (else_stmts other)))
  if_least s test taken other is = ap (λ a. least (breaks rule rounds a)) (ap model_of_stmt is ∙ stmt_If test taken other)
      ∙ least_append (rule.tested rounds (model_of_src_test test) ++ block_breaks taken) (breaks_else rule rounds (else_stmts other))
      ∙ ap (λ o. lesser_offset o (least (breaks_else rule rounds (else_stmts other)))) (least_append (rule.tested rounds (model_of_src_test test)) (block_breaks taken))

pub for_least : (rule : LoopRuleModel) (rounds : List Round) (s : Stmt) (counter : List ℕ) (at from to : ℕ) (body : Vec Stmt Global) → s ≡ For counter at from to body
    → least (breaks rule rounds (model_of_stmt s)) ≡ lesser_offset (least (rule.counted (record { counter = counter; from = from; to = to }) at (stmts_of (map model_of_stmt body.items))))
    (least (breaks_in rule (record { counter = counter; from = from; to = to } ∷ rounds) (stmts_of (map model_of_stmt body.items))))
for_least rule rounds s counter at from to body is = ap (λ a. least (breaks rule rounds a)) (ap model_of_stmt is ∙ stmt_For counter at from to body)
    ∙ least_append (rule.counted (record { counter = counter; from = from; to = to }) at (stmts_of (map model_of_stmt body.items)))
    (breaks_in rule (record { counter = counter; from = from; to = to } ∷ rounds) (stmts_of (map model_of_stmt body.items)))
