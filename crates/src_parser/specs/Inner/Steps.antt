-- What the parts of the parser say of tokens.
use Rattle.std.specs.Prelude.{◌≤◌, ℕ, zero, suc, Bool, true, false, List, Option, Some, None, nat_le, map}
use Rattle.src_model.specs.Grammar.{Lexed, Word, rank, IsExpr, StmtBehind, Signed, Enclosed, Called}
use Rattle.grammar.specs.declared.words.Word.TheVariants.{Name, Symbol as Shows, Key as Keyed}
use Rattle.src_model.specs.declared.words.Key.TheVariants.{Operator as Operates, Compare as Compares, Call as Calls}
use Rattle.src_model.specs.declared.program.Cmp.{Cmp}
use Rattle.grammar.specs.Tokens.{BeginsWith}
use Rattle.src_model.specs.declared.words.Symbol.TheVariants.{Comma, LeftBracket, LeftParen, Tilde, Var, If, Else, While, For}
use Rattle.rec_bits.specs.declared.operator.Op1.TheVariants.{Not, Neg}
use Rattle.rec_bits.specs.declared.operator.Op2.TheVariants.{Sub}
use Rattle.grammar.specs.Tokens.{IsNothing}
use Rattle.std.specs.Global.{Vec}
use Rattle.src_model.specs.declared.program.Stmt.{Stmt}
use Rattle.src_parser.specs.declared.statement.Compound.{Compound}
use Rattle.src_parser.specs.declared.statement.Compound.TheVariants.{If as Chooses, While as Repeats, For as Counts}
use Rattle.src_parser.specs.declared.expression.Opening.{Opening}
use Rattle.src_parser.specs.declared.expression.Opening.TheVariants.{Sign, Paren, Call as Asks}
use Rattle.src_model.specs.Written.{SrcExprModel, StmtModel, model_of_stmt}

-- how tightly a word binds what stands before it: a bracket before all operators, and what is no
-- operator not at all
abbrev pub word_rank : Word → ℕ
word_rank (Shows LeftBracket) = 0
word_rank (Keyed (Operates op)) = rank op
word_rank _ = 9

-- what may go on behind an expression with the operators up to a rank
abbrev pub may_follow : ℕ → Word → Bool
may_follow k word = nat_le (word_rank word) k

abbrev pub after : ℕ → Lexed → Bool
after k t = may_follow k t.word

-- what may stand in brackets, parentheses and calls, where so many levels are left
abbrev pub InExpr : ℕ → List Lexed → SrcExprModel → Type 0
InExpr zero = IsNothing
InExpr (suc levels) = IsExpr levels

-- ---- what opens a level

abbrev pub opening_of : Word → Option Opening
opening_of (Keyed (Operates Sub)) = Some (Sign Neg)
opening_of (Shows Tilde) = Some (Sign Not)
opening_of (Shows LeftParen) = Some Paren
opening_of (Keyed (Calls call)) = Some (Asks call)
opening_of _ = None

-- the fewest tokens of what is opened, with its first one
abbrev pub least_of : Opening → ℕ
least_of (Sign op) = 2
least_of Paren = 3
least_of (Asks call) = 6

-- what stands behind the token that opens a level
abbrev pub OpenBehind : (List Lexed → SrcExprModel → Type 0) → (List Lexed → SrcExprModel → Type 0) → Opening →
    ℕ → List Lexed → SrcExprModel → Type 0
OpenBehind U E (Sign op) at = Signed U op at
OpenBehind U E Paren at = Enclosed E at
OpenBehind U E (Asks call) at = Called E call at

-- a level can be opened that takes so many tokens
pub record HasRoom (levels room least : ℕ) : Type 0 where
  pub level : 1 ≤ levels
  pub fits : least ≤ room

pub record OpensIndex (levels room : ℕ) (ts : List Lexed) : Type 0 where
  pub begins : BeginsWith LeftBracket ts
  pub roomy : HasRoom levels room 3

-- ---- statements

-- the comparison that a word is
abbrev pub cmp_of : Word → Option Cmp
cmp_of (Keyed (Compares cmp)) = Some cmp
cmp_of _ = None

pub record OpensBracket (levels : ℕ) (ts : List Lexed) : Type 0 where
  pub begins : BeginsWith LeftBracket ts
  pub level : 1 ≤ levels

-- what begins a statement
abbrev pub act_word : Word → Bool
act_word (Name n) = true
act_word (Shows If) = true
act_word (Shows While) = true
act_word (Shows For) = true
act_word _ = false

-- what may go on behind a statement
abbrev pub else_word : Word → Bool
else_word (Shows Else) = true
else_word _ = false

abbrev pub after_else : Lexed → Bool
after_else t = else_word t.word

-- behind statements
abbrev pub acts_word : Word → Bool
acts_word (Shows Else) = true
acts_word w = act_word w

abbrev pub after_acts : Lexed → Bool
after_acts t = acts_word t.word

abbrev pub compound_of : Word → Option Compound
compound_of (Shows If) = Some Chooses
compound_of (Shows While) = Some Repeats
compound_of (Shows For) = Some Counts
compound_of _ = None

abbrev pub CompoundBehind : ℕ → (List Lexed → List StmtModel → Type 0) → Compound → List Lexed → StmtModel → Type 0
CompoundBehind levels B Chooses = StmtBehind levels B (Shows If) 0
CompoundBehind levels B Repeats = StmtBehind levels B (Shows While) 0
CompoundBehind levels B Counts = StmtBehind levels B (Shows For) 0

-- an else part as the code has it
abbrev pub others_of : Option (Vec Stmt) → Option (List StmtModel)
others_of None = None
others_of (Some v) = Some (map model_of_stmt v.items)

-- ---- declarations

abbrev pub bracket_word : Word → Bool
bracket_word (Shows LeftBracket) = true
bracket_word _ = false

abbrev pub after_decl : Lexed → Bool
after_decl t = bracket_word t.word

-- behind the variables of a line
abbrev pub decls_word : Word → Bool
decls_word (Shows Comma) = true
decls_word w = bracket_word w

abbrev pub after_decls : Lexed → Bool
after_decls t = decls_word t.word

-- behind lines
abbrev pub var_word : Word → Bool
var_word (Shows Var) = true
var_word _ = false

abbrev pub after_lines : Lexed → Bool
after_lines t = var_word t.word

-- behind a program
abbrev pub text_word : Word → Bool
text_word (Shows Var) = true
text_word w = acts_word w

abbrev pub after_text : Lexed → Bool
after_text t = text_word t.word
