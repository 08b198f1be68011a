use Rattle.std.proofs.Common.{◌≡◌, ◌++◌, drop}
use Rattle.std.specs.List.{AllByRecursion}
use Rattle.code_model.specs.ImageFits.{CostFits}
use Rattle.right_code.specs.Covered.{numbered}
use Rattle.code_gen.proofs.covers.cost_lines.Given as goal

abbrev pub invariant-loop-number : goal.invariant-loop-number
invariant-loop-number l = record {
  lines : l.lines ++ numbered l.number (drop l.number l.costs) ≡ numbered 0 l.costs;
  fits : AllByRecursion CostFits l.lines;
}
