-- What a run keeps has at most one proof.
use Rattle.std.proofs.Common.{ℕ, List, Option, Some, None}
use Rattle.std.specs.Coded.{le_prop}
use Rattle.std.proofs.Props.{props}
use Rattle.src_eval.specs.declared.formula.Formula.{Formula, Number, Cell, Element', Un', Bin', Sext', Low'}
use Rattle.src_eval.specs.declared.formula.Comparison.{Comparison}
use Rattle.src_eval.specs.declared.machine.Step.{Step}
use Rattle.src_eval.specs.declared.machine.Step.TheVariants.{Assign, Test}
use Rattle.src_eval.specs.declared.machine.Machine.{Machine}
use Rattle.src_eval.specs.Formulas.{FormulaFits, FitsComparison}
use Rattle.src_eval.specs.Inner.Steps.{FitsStep, MachineFits}

fits_prop : (word width : ℕ) (f : Formula) → IsProp (FormulaFits word width f)
fits_prop word width (Number n) = hlevel (le_prop)
fits_prop word width (Cell at) = hlevel (le_prop)
fits_prop word width (Element' first p x) = hlevel (le_prop, fits_prop word word x)
fits_prop word width (Un' op inner p x) = hlevel (le_prop, fits_prop word inner x)
fits_prop word width (Bin' op inner p x q y) = hlevel (le_prop, fits_prop word inner x, fits_prop word inner y)
fits_prop word width (Sext' from to p x) = hlevel (le_prop, fits_prop word from x)
fits_prop word width (Low' inner p x) = hlevel (le_prop, fits_prop word 64 x)

comparison_prop : (word : ℕ) (test : Comparison) → IsProp (FitsComparison word test)
comparison_prop word test = hlevel (le_prop, fits_prop word test.width test.left, fits_prop word test.width test.right)

step_prop : (word : ℕ) (steps : List Step) (at : ℕ) (o : Option Step) → IsProp (FitsStep word steps at o)
step_prop word steps at None = hlevel
step_prop word steps at (Some (Assign first index value next)) =
    hlevel (props, fits_prop word word index, fits_prop word word value)
step_prop word steps at (Some (Test test on_true on_false)) = comparison_prop word test

pub kept_prop : (m : Machine) → IsProp (MachineFits m)
kept_prop m = hlevel (le_prop, step_prop m.typed.now.width m.steps)
