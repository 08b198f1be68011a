-- Expressions and transfers as plain values, without the addresses of boxes. Every definition
-- speaks of these.
use Rattle.std.specs.Prelude.{ℕ, ◌+◌, ◌-◌, ◌⊎◌}
use Rattle.rec_bits.specs.declared.operator.Op1.{Op1}
use Rattle.rec_bits.specs.declared.operator.Op2.{Op2}
use Rattle.rec_bits.specs.declared.operator.Op2.TheVariants.{Add}
use Rattle.rec_bits.specs.Operators.{result_width}
use Rattle.net_model.specs.declared.hardware.Space.{Space}
use Rattle.net_model.specs.declared.hardware.Space.TheVariants.{Memory as InMemory, File as InFile}
use Rattle.net_model.specs.declared.expression.Expr.{Expr}
use Rattle.net_model.specs.declared.expression.Expr.TheVariants.{Word, Reg, Const, Read', Cell', Un', Bin', Slice', Cat', Zext', Sext', Select'}
use Rattle.net_model.specs.declared.expression.Transfer.{Transfer}
use Rattle.net_model.specs.declared.expression.Transfer.TheVariants.{Keep, Write, WriteAt}

-- an expression
pub data ExprModel : Type 0 where
  word : (width : ℕ) → ExprModel
  reg : (id width : ℕ) → ExprModel
  const : (width value : ℕ) → ExprModel
  read : (space : Space) (addr : ExprModel) (width : ℕ) → ExprModel
  un : (op : Op1) (a : ExprModel) → ExprModel
  bin : (op : Op2) (a b : ExprModel) → ExprModel
  slice : (a : ExprModel) (hi lo : ℕ) → ExprModel
  cat : (a b : ExprModel) → ExprModel
  zext : (a : ExprModel) (width : ℕ) → ExprModel
  sext : (a : ExprModel) (width : ℕ) → ExprModel
  select : (c a b : ExprModel) → ExprModel

-- a cell of the register file
abbrev pub cell : ExprModel → ℕ → ExprModel
cell a w = read InFile a w

-- what a storage does at a clock
pub data TransferModel : Type 0 where
  keep : TransferModel
  write : (value : ExprModel) → TransferModel
  write_at : (addr value : ExprModel) → TransferModel

-- the expression of the code's type
abbrev pub model_of_expr : Expr → ExprModel
model_of_expr (Word w) = word w
model_of_expr (Reg r w) = reg r w
model_of_expr (Const w v) = const w v
model_of_expr (Read' p a w) = read InMemory (model_of_expr a) w
model_of_expr (Cell' p a w) = cell (model_of_expr a) w
model_of_expr (Un' o p a) = un o (model_of_expr a)
model_of_expr (Bin' o p a q b) = bin o (model_of_expr a) (model_of_expr b)
model_of_expr (Slice' p a h l) = slice (model_of_expr a) h l
model_of_expr (Cat' p a q b) = cat (model_of_expr a) (model_of_expr b)
model_of_expr (Zext' p a w) = zext (model_of_expr a) w
model_of_expr (Sext' p a w) = sext (model_of_expr a) w
model_of_expr (Select' p c q a r b) = select (model_of_expr c) (model_of_expr a) (model_of_expr b)

abbrev pub model_of_transfer : Transfer → TransferModel
model_of_transfer Keep = keep
model_of_transfer (Write e) = write (model_of_expr e)
model_of_transfer (WriteAt a e) = write_at (model_of_expr a) (model_of_expr e)

-- the width of an expression
abbrev pub expr_width : ExprModel → ℕ
expr_width (word w) = w
expr_width (reg r w) = w
expr_width (const w v) = w
expr_width (read space a w) = w
expr_width (un o a) = expr_width a
expr_width (bin o a b) = result_width o (expr_width a)
expr_width (slice a hi lo) = hi + 1 - lo
expr_width (cat a b) = expr_width a + expr_width b
expr_width (zext a w) = w
expr_width (sext a w) = w
expr_width (select c a b) = expr_width a

-- how many leaves and operators there are
abbrev pub size_of : ExprModel → ℕ
size_of (word w) = 1
size_of (reg r w) = 1
size_of (const w v) = 1
size_of (read space a w) = size_of a + 1
size_of (un o a) = size_of a + 1
size_of (bin o a b) = size_of a + size_of b + 1
size_of (slice a h l) = size_of a + 1
size_of (cat a b) = size_of a + size_of b + 1
size_of (zext a w) = size_of a + 1
size_of (sext a w) = size_of a + 1
size_of (select c a b) = size_of c + size_of a + size_of b + 1

-- a register plus 1, in the two ways to write it
abbrev pub next_of : ℕ → ℕ → ExprModel
next_of id width = bin Add (reg id width) (const width 1)

abbrev pub swapped_next_of : ℕ → ℕ → ExprModel
swapped_next_of id width = bin Add (const width 1) (reg id width)

-- either of them is so: how a step of the program counter is told
abbrev pub EitherNext : ℕ → ℕ → (ExprModel → Type 0) → Type 0
EitherNext id width IsSo = IsSo (next_of id width) ⊎ IsSo (swapped_next_of id width)
