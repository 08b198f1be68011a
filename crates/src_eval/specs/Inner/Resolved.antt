-- When a formula stands for an expression of a program.
use Rattle.std.specs.Prelude.{◌≡◌, ℕ, List, Option}
use Rattle.src_model.specs.declared.program.Var.{Var as Declared}
use Rattle.src_model.specs.Written.{SrcNodeModel, SrcExprModel, SrcTestModel}
use Rattle.src_model.specs.Meaning.{shape_width, shape_value, index_value, holds}
use Rattle.src_eval.specs.declared.formula.Formula.{Formula}
use Rattle.src_eval.specs.declared.formula.Comparison.{Comparison}
use Rattle.src_eval.specs.Formulas.{formula_value, met, FormulaFits, FitsComparison}

-- it has the expression's value in every store, and its width
pub record Resolves (word : ℕ) (vars : List Declared) (asked : ℕ) (e : SrcNodeModel) (f : Formula) : Type 0 where
  pub value : (cells : List ℕ) → formula_value cells f ≡ shape_value word vars cells asked e
  pub fits : FormulaFits word (shape_width word asked e) f

pub record ResolvesIndex (word : ℕ) (vars : List Declared) (index : Option SrcExprModel) (f : Formula) : Type 0 where
  pub value : (cells : List ℕ) → formula_value cells f ≡ index_value word vars cells index
  pub fits : FormulaFits word word f

pub record ResolvesTest (word : ℕ) (vars : List Declared) (test : SrcTestModel) (f : Comparison) : Type 0 where
  pub holds_as : (cells : List ℕ) → met f cells ≡ holds word vars test cells
  pub fits : FitsComparison word f
