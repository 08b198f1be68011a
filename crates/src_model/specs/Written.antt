-- What the expressions and statements of a program say, apart from where they lie in memory.
use Rattle.std.specs.Prelude.{ℕ, List, [], ◌∷◌, Option, Some, None, map}
use Rattle.std.specs.Global.{Box}
use Rattle.rec_bits.specs.declared.operator.Op1.{Op1}
use Rattle.rec_bits.specs.declared.operator.Op2.{Op2}
use Rattle.src_model.specs.declared.program.Cmp.{Cmp}
use Rattle.src_model.specs.declared.program.Program.{Program}
use Rattle.src_model.specs.declared.program.Var.{Var as Declared}
use Rattle.src_model.specs.declared.program.SrcExpr.{SrcExpr}
use Rattle.src_model.specs.declared.program.SrcTest.{SrcTest}
use Rattle.src_model.specs.declared.program.SrcNode.{SrcNode, Num, Var, Un', Bin', Zext', Sext', Low'}
use Rattle.src_model.specs.declared.program.Spot.{Spot, Spot', Held-Spot-index, None' as NoIndex', Some' as Index'}
use Rattle.src_model.specs.declared.program.Stmt.{Stmt, Assign, If', While', For', Row_of-Stmt, end_of-Stmt, more_of-Stmt, Held-Stmt-If-2, None', Some'}

-- ---- expressions

-- what an expression is, with the offsets of the expressions in it
pub data SrcNodeModel : Type 0 where
  num : ℕ → SrcNodeModel
  plain : List ℕ → ℕ → SrcNodeModel
  element : List ℕ → ℕ → ℕ → SrcNodeModel → SrcNodeModel
  un : Op1 → ℕ → SrcNodeModel → SrcNodeModel
  bin : Op2 → ℕ → SrcNodeModel → ℕ → SrcNodeModel → SrcNodeModel
  zext : ℕ → SrcNodeModel → ℕ → SrcNodeModel
  sext : ℕ → SrcNodeModel → ℕ → SrcNodeModel
  low : ℕ → SrcNodeModel → ℕ → SrcNodeModel

-- an expression: the offset of its first token, and what it is
pub record SrcExprModel : Type 0 where
  pub at : ℕ
  pub shape : SrcNodeModel

-- a place: its name, the offset of that, and the index
pub record SpotModel : Type 0 where
  pub name : List ℕ
  pub at : ℕ
  pub index : Option SrcExprModel

-- a place as an expression
abbrev pub node_at : List ℕ → ℕ → Option SrcExprModel → SrcNodeModel
node_at name at None = plain name at
node_at name at (Some e) = element name at e.at e.shape

abbrev mutual
  pub model_of_src_node : SrcNode → SrcNodeModel
  model_of_src_node (Num n) = num n
  model_of_src_node (Var spot) = spot_node spot
  model_of_src_node (Un' op p at x) = un op at (model_of_src_node x)
  model_of_src_node (Bin' op p at x q to y) = bin op at (model_of_src_node x) to (model_of_src_node y)
  model_of_src_node (Zext' p at x width) = zext at (model_of_src_node x) width
  model_of_src_node (Sext' p at x width) = sext at (model_of_src_node x) width
  model_of_src_node (Low' p at x width) = low at (model_of_src_node x) width

  pub spot_node : Spot → SrcNodeModel
  spot_node (Spot' name at index) = indexed_node name at index

  pub indexed_node : List ℕ → ℕ → Held-Spot-index → SrcNodeModel
  indexed_node name at NoIndex' = plain name at
  indexed_node name at (Index' p to x) = element name at to (model_of_src_node x)

abbrev pub model_of_src_expr : SrcExpr → SrcExprModel
model_of_src_expr e = record { at = e.at; shape = model_of_src_node e.node }

abbrev pub index_of : Option (Box SrcExpr) → Option SrcExprModel
index_of None = None
index_of (Some b) = Some (model_of_src_expr b.value)

abbrev pub boxed_index : Held-Spot-index → Option SrcExprModel
boxed_index NoIndex' = None
boxed_index (Index' p to x) = Some (record { at = to; shape = model_of_src_node x })

abbrev pub model_of_spot : Spot → SpotModel
model_of_spot (Spot' name at index) = record { name = name; at = at; index = boxed_index index }

-- ---- statements

pub record SrcTestModel : Type 0 where
  pub cmp : Cmp
  pub left : SrcExprModel
  pub right : SrcExprModel

abbrev pub model_of_src_test : SrcTest → SrcTestModel
model_of_src_test t = record { cmp = t.cmp; left = model_of_src_expr t.left; right = model_of_src_expr t.right }

mutual
  pub data StmtModel : Type 0 where
    assign : SpotModel → SrcExprModel → StmtModel
    choice : SrcTestModel → StmtsModel → ElseModel → StmtModel
    while : SrcTestModel → StmtsModel → StmtModel
    count : List ℕ → ℕ → ℕ → ℕ → StmtsModel → StmtModel

  pub data StmtsModel : Type 0 where
    no_acts : StmtsModel
    act : StmtModel → StmtsModel → StmtsModel

  pub data ElseModel : Type 0 where
    without : ElseModel
    otherwise : StmtsModel → ElseModel

abbrev mutual
  pub model_of_stmt : Stmt → StmtModel
  model_of_stmt (Assign place value) = assign (model_of_spot place) (model_of_src_expr value)
  model_of_stmt (If' test n taken other) = choice (model_of_src_test test) (model_of_stmts taken) (model_of_else other)
  model_of_stmt (While' test n body) = while (model_of_src_test test) (model_of_stmts body)
  model_of_stmt (For' counter at from to n body) = count counter at from to (model_of_stmts body)

  pub model_of_stmts : {n : _} → Row_of-Stmt n → StmtsModel
  model_of_stmts end_of-Stmt = no_acts
  model_of_stmts (more_of-Stmt s others) = act (model_of_stmt s) (model_of_stmts others)

  pub model_of_else : Held-Stmt-If-2 → ElseModel
  model_of_else None' = without
  model_of_else (Some' n row) = otherwise (model_of_stmts row)

-- statements, and an else part, from a list and an option
abbrev pub stmts_of : List StmtModel → StmtsModel
stmts_of [] = no_acts
stmts_of (a ∷ rest) = act a (stmts_of rest)

abbrev pub else_of : Option (List StmtModel) → ElseModel
else_of None = without
else_of (Some rest) = otherwise (stmts_of rest)

-- ---- programs

-- the declarations and the statements of a text
pub record ProgramModel : Type 0 where
  pub vars : List Declared
  pub body : List StmtModel

abbrev pub model_of_program : Program → ProgramModel
model_of_program p = record { vars = p.vars; body = map model_of_stmt p.body.items }
