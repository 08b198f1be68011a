use Rattle.std.proofs.Common.{◌≡◌, ◌++◌, drop}
use Rattle.net_model.specs.DriverRules.{are_new}
use Rattle.net_rules.proofs.numbers.add_all.Given as goal

abbrev pub invariant-loop-n : goal.invariant-loop-n
invariant-loop-n l = record {
  new : are_new l.seen (drop l.n-index l.numbers) ≡ are_new l.initial.seen l.numbers;
  all : l.seen ++ drop l.n-index l.numbers ≡ l.initial.seen ++ l.numbers;
}
