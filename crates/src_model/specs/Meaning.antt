-- What the expressions, places, assignments and tests of a program mean in a store. A store is the
-- list of the cells of all variables, in the order of their declarations. A value is a number below
-- 2 to its width.
use Rattle.std.specs.Prelude.{ℕ, ◌+◌, ◌%◌, ◌^◌, ◌<◌, ◌≡◌, unwrap_or, Bool, not, ◌==◌, nat_lt, nat_le, int_lt, int_le, if◌then◌else◌, List, [], ◌∷◌, length, slice_index, slice_set, Option, Some, None, replicate}
use Rattle.rec_bits.specs.Operators.{apply1_of, apply2_of, sext_of, signed_of, result_width}
use Rattle.src_model.specs.declared.program.Cmp.{Cmp}
use Rattle.src_model.specs.declared.program.Cmp.TheVariants.{Eq, Ne, Lt, Le, Gt, Ge, Slt, Sle, Sgt, Sge}
use Rattle.src_model.specs.declared.program.Var.{Var as Declared}
use Rattle.src_model.specs.Written.{SrcNodeModel, num, plain, element, un, bin, zext, sext, low, SrcExprModel, SpotModel, SrcTestModel}
use Rattle.rec_bits.specs.Faults.{same_name}
use Rattle.src_model.specs.Widths.{is_literal}

-- ---- cells

-- the cells of a variable: one, or those of an array
abbrev pub cells_in : Declared → ℕ
cells_in v = unwrap_or v.len 1

-- the cells of all variables
abbrev pub cell_count : List Declared → ℕ
cell_count [] = 0
cell_count (v ∷ rest) = cells_in v + cell_count rest

-- the first cell of a variable, behind those of the variables that are declared before it
abbrev pub first_cell : List Declared → List ℕ → ℕ
first_cell [] name = 0
first_cell (v ∷ rest) name = if same_name name v.name then 0 else cells_in v + first_cell rest name

-- a store of these variables, whose values are as wide as a word
pub record FitsStore (word : ℕ) (vars : List Declared) (cells : List ℕ) : Type 0 where
  pub all_cells : length cells ≡ cell_count vars
  pub below : (cell : ℕ) → slice_index cells cell < 2 ^ word

-- ---- widths

-- the width of an expression, given that of a word and that asked of a literal
abbrev pub shape_width : ℕ → ℕ → SrcNodeModel → ℕ
shape_width word asked (num n) = asked
shape_width word asked (plain name at) = word
shape_width word asked (element name at to x) = word
shape_width word asked (un op at x) = shape_width word asked x
shape_width word asked (bin op at x to y) =
    result_width op (if is_literal x then shape_width word word y else shape_width word word x)
shape_width word asked (zext at x width) = width
shape_width word asked (sext at x width) = width
shape_width word asked (low at x width) = width

-- the width of both operands: a literal has that of the other one, and two literals have the word's
abbrev pub operand_width : ℕ → SrcNodeModel → SrcNodeModel → ℕ
operand_width word x y = if is_literal x then shape_width word word y else shape_width word word x

-- ---- expressions

-- the value of an expression
abbrev pub shape_value : ℕ → List Declared → List ℕ → ℕ → SrcNodeModel → ℕ
shape_value word vars cells asked (num n) = n
shape_value word vars cells asked (plain name at) = slice_index cells (first_cell vars name)
shape_value word vars cells asked (element name at to x) =
    slice_index cells (first_cell vars name + shape_value word vars cells word x)
shape_value word vars cells asked (un op at x) =
    apply1_of op (shape_width word asked x) (shape_value word vars cells asked x)
shape_value word vars cells asked (bin op at x to y) = apply2_of op (operand_width word x y)
    (shape_value word vars cells (operand_width word x y) x) (shape_value word vars cells (operand_width word x y) y)
shape_value word vars cells asked (zext at x width) = shape_value word vars cells word x
shape_value word vars cells asked (sext at x width) =
    sext_of (shape_value word vars cells word x) (shape_width word word x) width
shape_value word vars cells asked (low at x width) = shape_value word vars cells word x % 2 ^ width

-- ---- statements

-- how far an index is from the first cell
abbrev pub index_value : ℕ → List Declared → List ℕ → Option SrcExprModel → ℕ
index_value word vars cells None = 0
index_value word vars cells (Some x) = shape_value word vars cells word x.shape

-- the cell of a place
abbrev pub cell_of : ℕ → List Declared → List ℕ → SpotModel → ℕ
cell_of word vars cells place = first_cell vars place.name + index_value word vars cells place.index

-- the store after an assignment: the value goes into the place's cell, and both are found in the
-- store before it
abbrev pub assigned : ℕ → List Declared → SpotModel → SrcExprModel → List ℕ → List ℕ
assigned word vars place e cells =
    slice_set cells (cell_of word vars cells place) (shape_value word vars cells word e.shape)

-- two values compared, as numbers or in two's complement
abbrev pub compares : Cmp → ℕ → ℕ → ℕ → Bool
compares Eq width a b = a == b
compares Ne width a b = not (a == b)
compares Lt width a b = nat_lt a b
compares Le width a b = nat_le a b
compares Gt width a b = nat_lt b a
compares Ge width a b = nat_le b a
compares Slt width a b = int_lt (signed_of width a) (signed_of width b)
compares Sle width a b = int_le (signed_of width a) (signed_of width b)
compares Sgt width a b = int_lt (signed_of width b) (signed_of width a)
compares Sge width a b = int_le (signed_of width b) (signed_of width a)

-- whether a test holds
abbrev pub holds : ℕ → List Declared → SrcTestModel → List ℕ → Bool
holds word vars test cells = compares test.cmp (operand_width word test.left.shape test.right.shape)
    (shape_value word vars cells (operand_width word test.left.shape test.right.shape) test.left.shape)
    (shape_value word vars cells (operand_width word test.left.shape test.right.shape) test.right.shape)

-- the store of nothing but zeros
abbrev pub zeros : List Declared → List ℕ
zeros vars = replicate (cell_count vars) 0
