use Rattle.std.proofs.Common.{◌≡◌, drop}
use Rattle.net_model.specs.TextWidths.{numbers_fit}
use Rattle.net_rules.proofs.widths.numbers_fit.Given as goal

abbrev pub invariant-loop-n : goal.invariant-loop-n
invariant-loop-n l = numbers_fit l.width (drop l.n-index l.numbers) ≡ numbers_fit l.width l.numbers
