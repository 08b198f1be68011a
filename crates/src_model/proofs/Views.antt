-- What statements are seen as, by the lists of their blocks.
use Rattle.std.proofs.Common.{◌≡◌, ℕ, List, map, Option, Some, None, refl, ap, ◌∙◌}
use Rattle.std.specs.declared.alloc.Global.{Global}
use Rattle.std.specs.declared.vec.Vec.{Vec}
use mathlib.Core.Former.{Count}
use Rattle.src_model.specs.declared.program.SrcTest.{SrcTest}
use Rattle.src_model.specs.declared.program.Stmt.{Stmt, If as IfMade, If', While as WhileMade, For as ForMade, Held-Stmt-If-2, None', Some', Row_of-Stmt, end_of-Stmt, more_of-Stmt, items-the_row-Stmt, items_hidden-the_row-Stmt-0}
use Rattle.src_model.specs.declared.program.Stmt.TheBlock.{hidden-the_row-Stmt-0}
use Rattle.src_model.specs.Written.{act, choice, while, count, ElseModel, otherwise, model_of_stmt, model_of_stmts, model_of_else, stmts_of, else_of, model_of_src_test}

row_seen : (n : Count) (row : Row_of-Stmt n) → model_of_stmts row ≡ stmts_of (map model_of_stmt (items-the_row-Stmt n row))
row_seen n end_of-Stmt = refl
row_seen n (more_of-Stmt {n = m} s others) = ap (λ rest. act (model_of_stmt s) rest) (row_seen m others)

pub block_seen : (v : Vec Stmt Global) → model_of_stmts (hidden-the_row-Stmt-0 v) ≡ stmts_of (map model_of_stmt v.items)
block_seen v = row_seen _ (hidden-the_row-Stmt-0 v) ∙ ap (λ ss. stmts_of (map model_of_stmt ss)) (items_hidden-the_row-Stmt-0 v)

-- an else part as it is held
abbrev pub else_stmts : Option (Vec Stmt Global) → ElseModel
else_stmts None = else_of None
else_stmts (Some v) = else_of (Some (map model_of_stmt v.items))

pub stmt_While : (test : SrcTest) (v : Vec Stmt Global) → model_of_stmt (WhileMade test v) ≡ while (model_of_src_test test) (stmts_of (map model_of_stmt v.items))
stmt_While test v = ap (λ b. while (model_of_src_test test) b) (block_seen v)

pub stmt_For : (counter : List ℕ) (at from to : ℕ) (v : Vec Stmt Global) → model_of_stmt (ForMade counter at from to v) ≡ count counter at from to (stmts_of (map model_of_stmt v.items))
stmt_For counter at from to v = ap (λ b. count counter at from to b) (block_seen v)

abbrev held_row : Held-Stmt-If-2 → (n : Count) × Row_of-Stmt n
held_row None' = (_, end_of-Stmt)
held_row (Some' m row) = (_, row)

abbrev held_of : Stmt → Held-Stmt-If-2
held_of (If' test n taken other) = other
held_of _ = None'

other_seen : (test : SrcTest) (v : Vec Stmt Global) (o : Option (Vec Stmt Global)) → model_of_else (held_of (IfMade test v o)) ≡ else_stmts o
other_seen test v None = refl
other_seen test v (Some w) = let row = held_row (held_of (IfMade test v (Some w))) in ap (λ b. otherwise b) (row_seen row.0 row.1 ∙ ap (λ ss. stmts_of (map model_of_stmt ss)) (items_hidden-the_row-Stmt-0 w))

pub stmt_If : (test : SrcTest) (v : Vec Stmt Global) (o : Option (Vec Stmt Global)) → model_of_stmt (IfMade test v o) ≡ choice (model_of_src_test test) (stmts_of (map model_of_stmt v.items)) (else_stmts o)
stmt_If test v o = ap (λ b. choice (model_of_src_test test) b (model_of_else (held_of (IfMade test v o)))) (block_seen v) ∙ ap (λ b. choice (model_of_src_test test) (stmts_of (map model_of_stmt v.items)) b) (other_seen test v o)
