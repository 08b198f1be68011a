-- What the rules of widths and counters leave to be known of each expression and statement of a
-- program that keeps them.
use Rattle.std.specs.Prelude.{ℕ, ◌^◌, ◌≡◌, ◌≤◌, ◌<◌}
use Rattle.src_model.specs.Written.{SrcNodeModel, num, plain, element, un, bin, zext, sext, low}
use Rattle.src_model.specs.Meaning.{shape_width, operand_width}

-- the operands of an operator have its width, and literals fit theirs
abbrev pub Fitting : ℕ → ℕ → SrcNodeModel → Type 0
Fitting word asked (num n) = n < 2 ^ asked
Fitting word asked (plain name at) = Unit {0}
Fitting word asked (element name at to x) = Fitting word word x × (shape_width word word x ≡ word)
Fitting word asked (un op at x) = Fitting word asked x
Fitting word asked (bin op at x to y) =
    Fitting word (operand_width word x y) x × Fitting word (operand_width word x y) y
    × (shape_width word (operand_width word x y) x ≡ operand_width word x y)
    × (shape_width word (operand_width word x y) y ≡ operand_width word x y)
Fitting word asked (zext at x width) = Fitting word word x × (shape_width word word x < width) × (width ≤ 64)
Fitting word asked (sext at x width) = Fitting word word x × (shape_width word word x < width) × (width ≤ 64)
Fitting word asked (low at x width) = Fitting word word x × (1 ≤ width) × (width < shape_width word word x)

-- an expression of a word's width
pub record FitsWord (word : ℕ) (e : SrcNodeModel) : Type 0 where
  pub parts : Fitting word word e
  pub width : shape_width word word e ≡ word

-- two sides of one width
pub record FitsSides (word : ℕ) (x y : SrcNodeModel) : Type 0 where
  pub left : Fitting word (operand_width word x y) x
  pub right : Fitting word (operand_width word x y) y
  pub left_width : shape_width word (operand_width word x y) x ≡ operand_width word x y
  pub right_width : shape_width word (operand_width word x y) y ≡ operand_width word x y
