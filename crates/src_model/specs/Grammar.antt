-- The grammar of programs. `levels` counts the blocks, brackets, parentheses, calls and unary signs
-- that may still be opened.
use Rattle.std.specs.Prelude.{◌≡◌, ℕ, zero, suc, List, [], ◌∷◌, ◌++◌, Option, Some, None, ◌==◌, if◌then◌else◌}
use Rattle.grammar.specs.Reading.{Return, Token, ◌>>=◌, Within, Maybe, Many, ListOf, Chain}
use Rattle.rec_bits.specs.declared.operator.Op1.{Op1}
use Rattle.rec_bits.specs.declared.operator.Op1.TheVariants.{Not, Neg}
use Rattle.rec_bits.specs.declared.operator.Op2.{Op2}
use Rattle.rec_bits.specs.declared.operator.Op2.TheVariants.{Add, Sub, Mul, And, Or, Xor, Shl, Shr, Sar}
use Rattle.src_model.specs.declared.program.Cmp.{Cmp}
use Rattle.src_model.specs.declared.program.Var.{Var as Declared}
use Rattle.grammar.specs.Tokens.{IsName, IsNumber, ByWord, IsNothing, Behind, Before}
use Rattle.grammar.specs.declared.words.Lexed.{Lexed as LexedOf}
use Rattle.grammar.specs.declared.words.Word.{Word as WordOf}
use Rattle.grammar.specs.declared.words.Word.TheVariants.{Name, Number, Symbol as Shows, Key as Keyed}
use Rattle.src_model.specs.declared.words.Key.{Key}
use Rattle.src_model.specs.declared.words.Key.TheVariants.{Operator as Operates, Compare as Compares, Call as Calls}
use Rattle.src_model.specs.declared.words.Call.{Call}
use Rattle.src_model.specs.declared.words.Call.TheVariants.{Zext, Sext, Low}
use Rattle.src_model.specs.declared.words.Symbol.{Symbol}
use Rattle.src_model.specs.declared.words.Symbol.TheVariants.{Equals, Semicolon, Comma, Tilde, LeftParen, RightParen, LeftBrace, RightBrace, LeftBracket, RightBracket, Var, If, Else, While, For, To}
use Rattle.src_model.specs.Written.{SrcNodeModel, num, un, bin, zext, sext, low, SrcExprModel, SpotModel, node_at, SrcTestModel, StmtModel, assign, choice, while, count, stmts_of, else_of, ProgramModel}

-- ---- tokens

abbrev pub Word : Type 0
Word = WordOf Symbol Key

abbrev pub Lexed : Type 0
Lexed = LexedOf Symbol Key

abbrev pub IsCmp : List Lexed → Cmp → Type 0
IsCmp = Token (λ t cmp. t.word ≡ Keyed (Compares cmp))

-- ---- operators

-- how tightly an operator binds: the least first
abbrev pub rank : Op2 → ℕ
rank Mul = 1
rank Add = 2
rank Sub = 2
rank Shl = 3
rank Shr = 3
rank Sar = 3
rank And = 4
rank Xor = 5
rank Or = 6
rank _ = 7

-- the operator of a rank that a word is
abbrev pub op_of : ℕ → Word → Option Op2
op_of k (Keyed (Operates op)) = if rank op == k then Some op else None
op_of k _ = None

abbrev pub op_at : ℕ → Lexed → Option Op2
op_at k t = op_of k t.word

-- an operator with its operands begins where the left one does
abbrev pub join : SrcExprModel → Op2 → SrcExprModel → SrcExprModel
join a op b = record { at = a.at; shape = bin op a.at a.shape b.at b.shape }

-- ---- expressions: U stands for what a sign takes, E for what stands in brackets, parentheses
-- and calls

-- [ '[' Expr ']' ]
abbrev pub IsIndex : (List Lexed → SrcExprModel → Type 0) → List Lexed → Option SrcExprModel → Type 0
IsIndex E = Maybe (Behind LeftBracket (Before E RightBracket))

-- the part of a place behind its name
abbrev pub PlaceBehind : (List Lexed → SrcExprModel → Type 0) → List ℕ → ℕ → List Lexed → SpotModel → Type 0
PlaceBehind E name at = do
  index ← IsIndex E
  Return (record { name = name; at = at; index = index })

abbrev pub placed : SpotModel → SrcExprModel
placed p = record { at = p.at; shape = node_at p.name p.at p.index }

-- the operand of a sign that stands at `at`
abbrev pub Signed : (List Lexed → SrcExprModel → Type 0) → Op1 → ℕ → List Lexed → SrcExprModel → Type 0
Signed U op at = do
  a ← U
  Return (record { at = at; shape = un op a.at a.shape })

-- an expression in parentheses begins where they do
abbrev pub Enclosed : (List Lexed → SrcExprModel → Type 0) → ℕ → List Lexed → SrcExprModel → Type 0
Enclosed E at = do
  a ← Before E RightParen
  Return (record { at = at; shape = a.shape })

abbrev pub called : Call → SrcExprModel → ℕ → SrcNodeModel
called Zext a n = zext a.at a.shape n
called Sext a n = sext a.at a.shape n
called Low a n = low a.at a.shape n

-- '(' Expr ',' number ')'
abbrev pub Called : (List Lexed → SrcExprModel → Type 0) → Call → ℕ → List Lexed → SrcExprModel → Type 0
Called E call at = do
  a ← Behind LeftParen E
  n ← Before (Behind Comma IsNumber) RightParen
  Return (record { at = at; shape = called call a n })

-- Unary and Primary, by the first word
abbrev pub UnaryBehind : (List Lexed → SrcExprModel → Type 0) → (List Lexed → SrcExprModel → Type 0) → Word →
    ℕ → List Lexed → SrcExprModel → Type 0
UnaryBehind U E (Number n) at = Return (record { at = at; shape = num n })
UnaryBehind U E (Name name) at = do
  place ← PlaceBehind E name at
  Return (placed place)
UnaryBehind U E (Keyed (Operates Sub)) at = Signed U Neg at
UnaryBehind U E (Shows Tilde) at = Signed U Not at
UnaryBehind U E (Shows LeftParen) at = Enclosed E at
UnaryBehind U E (Keyed (Calls call)) at = Called E call at
UnaryBehind U E _ at = IsNothing

-- chains of the operators up to a rank, over what an operand is; they group to the left
abbrev pub Chains : ℕ → (List Lexed → SrcExprModel → Type 0) → List Lexed → SrcExprModel → Type 0
Chains zero U = U
Chains (suc k) U = Chain (Chains k U) (op_at (suc k)) join

unfoldable pub IsUnary : ℕ → List Lexed → SrcExprModel → Type 0
IsUnary zero = ByWord (UnaryBehind IsNothing IsNothing)
IsUnary (suc levels) = ByWord (UnaryBehind (IsUnary levels) (Chains 6 (IsUnary levels)))

abbrev pub IsExpr : ℕ → List Lexed → SrcExprModel → Type 0
IsExpr levels = Chains 6 (IsUnary levels)

-- an expression that isn't inside another one
abbrev pub IsOuter : ℕ → List Lexed → SrcExprModel → Type 0
IsOuter levels = Within 1024 (IsExpr levels)

-- ---- statements: B stands for a block

abbrev pub IsTest : ℕ → List Lexed → SrcTestModel → Type 0
IsTest levels = do
  left ← IsOuter levels
  cmp ← IsCmp
  right ← IsOuter levels
  Return (record { cmp = cmp; left = left; right = right })

-- what stands in the bracket of an assigned place, which is a level itself
abbrev pub IsInner : ℕ → List Lexed → SrcExprModel → Type 0
IsInner zero = IsNothing
IsInner (suc levels) = IsOuter levels

-- [ 'else' Block ]
abbrev pub IsElse : (List Lexed → List StmtModel → Type 0) → List Lexed → Option (List StmtModel) → Type 0
IsElse B = Maybe (Behind Else B)

-- a statement, by its first word
abbrev pub StmtBehind : ℕ → (List Lexed → List StmtModel → Type 0) → Word → ℕ → List Lexed → StmtModel → Type 0
StmtBehind levels B (Name name) at = do
  place ← PlaceBehind (IsInner levels) name at
  value ← Behind Equals (Before (IsOuter levels) Semicolon)
  Return (assign place value)
StmtBehind levels B (Shows If) at = do
  test ← IsTest levels
  taken ← B
  other ← IsElse B
  Return (choice test (stmts_of taken) (else_of other))
StmtBehind levels B (Shows While) at = do
  test ← IsTest levels
  body ← B
  Return (while test (stmts_of body))
StmtBehind levels B (Shows For) at = do
  counter ← IsName
  from ← Behind Equals IsNumber
  to ← Behind To IsNumber
  body ← B
  Return (count counter.name counter.at from to (stmts_of body))
StmtBehind levels B _ at = IsNothing

-- '{' { Stmt } '}'
unfoldable pub IsBlock : ℕ → List Lexed → List StmtModel → Type 0
IsBlock zero = IsNothing
IsBlock (suc levels) = Behind LeftBrace (Before (ListOf (ByWord (StmtBehind levels (IsBlock levels)))) RightBrace)

abbrev pub IsStmt : ℕ → List Lexed → StmtModel → Type 0
IsStmt levels = ByWord (StmtBehind levels (IsBlock levels))

abbrev pub IsBody : ℕ → List Lexed → List StmtModel → Type 0
IsBody levels = ListOf (IsStmt levels)

-- ---- programs

-- name [ '[' number ']' ]
abbrev pub IsDecl : List Lexed → Declared → Type 0
IsDecl = do
  ident ← IsName
  len ← Maybe (Behind LeftBracket (Before IsNumber RightBracket))
  Return (record { name = ident.name; at = ident.at; len = len })

-- { ',' Decl } behind a first one
abbrev pub DeclsBehind : Declared → List Lexed → List Declared → Type 0
DeclsBehind first = do
  others ← ListOf (Behind Comma IsDecl)
  Return (first ∷ others)

-- 'var' Decl { ',' Decl } ';'
abbrev pub IsDecls : List Lexed → List Declared → Type 0
IsDecls = do
  first ← Behind Var IsDecl
  Before (DeclsBehind first) Semicolon

-- the declarations of all lines, one after the other
abbrev pub IsLines : List Lexed → List Declared → Type 0
IsLines = Many IsDecls [] (λ line vars. line ++ vars)

abbrev pub IsProgram : List Lexed → ProgramModel → Type 0
IsProgram = do
  vars ← IsLines
  body ← IsBody 64
  Return (record { vars = vars; body = body })
