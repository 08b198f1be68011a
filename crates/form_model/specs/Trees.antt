-- Trees as expressions. A tree is an expression without registers, reads of the file, instruction
-- bits, cat and select, so width, size and meaning are those of expressions, and what a form
-- computes and what a program asks for are of one language.
use Rattle.std.specs.Prelude.{◌≡◌, ℕ, Bool, true, false, ◌&&◌}
use Rattle.net_model.specs.declared.hardware.Space.TheVariants.{Memory as InMemory, File as InFile}
use Rattle.net_model.specs.Exprs.{ExprModel, word, reg, const, read, un, bin, slice, cat, zext, sext, select}
use Rattle.net_model.specs.Fields.{fields}
use Rattle.net_model.specs.Occurs.{occurs}
use Rattle.form_model.specs.declared.trees.Tree.{Tree}
use Rattle.form_model.specs.declared.trees.Tree.TheVariants.{Lit, Read', Un', Bin', Slice', Zext', Sext'}

-- the expression that a tree is
abbrev pub model_of_tree : Tree → ExprModel
model_of_tree (Lit w v) = const w v
model_of_tree (Read' p a w) = read InMemory (model_of_tree a) w
model_of_tree (Un' o p a) = un o (model_of_tree a)
model_of_tree (Bin' o p a q b) = bin o (model_of_tree a) (model_of_tree b)
model_of_tree (Slice' p a hi lo) = slice (model_of_tree a) hi lo
model_of_tree (Zext' p a w) = zext (model_of_tree a) w
model_of_tree (Sext' p a w) = sext (model_of_tree a) w

-- an expression over numbers and the memory
abbrev pub is_tree : ExprModel → Bool
is_tree (word w) = false
is_tree (reg r w) = false
is_tree (const w v) = true
is_tree (read InMemory a w) = is_tree a
is_tree (read InFile a w) = false
is_tree (un o a) = is_tree a
is_tree (bin o a b) = is_tree a && is_tree b
is_tree (slice a hi lo) = is_tree a
is_tree (cat a b) = false
is_tree (zext a w) = is_tree a
is_tree (sext a w) = is_tree a
is_tree (select c a b) = false

-- a number
abbrev pub is_number : ExprModel → Bool
is_number (const w v) = true
is_number _ = false

-- a read at an address that is a number
abbrev pub is_cell : ExprModel → Bool
is_cell (read space a w) = is_number a
is_cell _ = false

-- no register and no instruction bit occurs in the expression
pub record HasNoState (expr : ExprModel) : Type 0 where
  pub no_register : (r : ℕ) → occurs r expr ≡ false
  pub no_bit : fields expr ≡ 0
