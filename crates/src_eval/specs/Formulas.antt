-- The value of an expression with cells in place of names, and when its operators are given
-- operands of their widths.
use Rattle.std.specs.Prelude.{ℕ, ◌+◌, ◌-◌, ◌^◌, ◌<◌, ◌≤◌, Bool, List, slice_index, slice_set}
use Rattle.rec_bits.specs.Operators.{apply1_of, apply2_of, sext_of, slice_of, result_width}
use Rattle.src_model.specs.Meaning.{compares}
use Rattle.src_eval.specs.declared.formula.Formula.{Formula, Number, Cell, Element', Un', Bin', Sext', Low'}
use Rattle.src_eval.specs.declared.formula.Comparison.{Comparison}
use Rattle.rec_bits.specs.Operators.{IsWidth}

abbrev pub formula_value : List ℕ → Formula → ℕ
formula_value cells (Number n) = n
formula_value cells (Cell at) = slice_index cells at
formula_value cells (Element' first p x) = slice_index cells (first + formula_value cells x)
formula_value cells (Un' op width p x) = apply1_of op width (formula_value cells x)
formula_value cells (Bin' op width p x q y) = apply2_of op width (formula_value cells x) (formula_value cells y)
formula_value cells (Sext' from to p x) = sext_of (formula_value cells x) from to
formula_value cells (Low' width p x) = slice_of (formula_value cells x) (width - 1) 0

-- the store after an assignment
abbrev pub stored : ℕ → Formula → Formula → List ℕ → List ℕ
stored first index value cells = slice_set cells (first + formula_value cells index) (formula_value cells value)

abbrev pub met : Comparison → List ℕ → Bool
met test cells = compares test.cmp test.width (formula_value cells test.left) (formula_value cells test.right)

-- ---- in one store: the operands fit

abbrev pub Sound : List ℕ → Formula → Type 0
Sound cells (Number n) = Unit {0}
Sound cells (Cell at) = Unit {0}
Sound cells (Element' first p x) = Sound cells x
Sound cells (Un' op width p x) = IsWidth width × (formula_value cells x < 2 ^ width) × Sound cells x
Sound cells (Bin' op width p x q y) =
    IsWidth width × (formula_value cells x < 2 ^ width) × (formula_value cells y < 2 ^ width)
    × Sound cells x × Sound cells y
Sound cells (Sext' from to p x) =
    (1 ≤ from) × (from ≤ to) × (to ≤ 64) × (formula_value cells x < 2 ^ from) × Sound cells x
Sound cells (Low' width p x) = IsWidth width × Sound cells x

pub record SoundSides (cells : List ℕ) (test : Comparison) : Type 0 where
  pub width : IsWidth test.width
  pub left : Sound cells test.left
  pub right : Sound cells test.right
  pub left_below : formula_value cells test.left < 2 ^ test.width
  pub right_below : formula_value cells test.right < 2 ^ test.width

-- ---- in every store of words: its values are below 2 to a width

abbrev pub FormulaFits : ℕ → ℕ → Formula → Type 0
FormulaFits word width (Number n) = n < 2 ^ width
FormulaFits word width (Cell at) = word ≤ width
FormulaFits word width (Element' first p x) = (word ≤ width) × FormulaFits word word x
FormulaFits word width (Un' op inner p x) = IsWidth inner × (inner ≤ width) × FormulaFits word inner x
FormulaFits word width (Bin' op inner p x q y) =
    IsWidth inner × (result_width op inner ≤ width) × FormulaFits word inner x
    × FormulaFits word inner y
FormulaFits word width (Sext' from to p x) =
    (1 ≤ from) × (from ≤ to) × (to ≤ 64) × (to ≤ width) × FormulaFits word from x
FormulaFits word width (Low' inner p x) = IsWidth inner × (inner ≤ width) × FormulaFits word 64 x

pub record FitsComparison (word : ℕ) (test : Comparison) : Type 0 where
  pub width : IsWidth test.width
  pub left : FormulaFits word test.width test.left
  pub right : FormulaFits word test.width test.right
