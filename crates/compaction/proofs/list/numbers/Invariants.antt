use Rattle.std.proofs.Common.{◌≡◌, ◌<◌, ◌^◌, take}
use Rattle.std.specs.List.{All}
use Rattle.compaction.specs.Lists.{pattern_numbers}
use Rattle.compaction.proofs.list.numbers.Given as goal

abbrev pub invariant-loop-step : goal.invariant-loop-step
invariant-loop-step l = record {
  numbers : l.numbers.items ≡ pattern_numbers (take l.step-index l.steps);
  small : All (λ n. n < 2 ^ 32) l.numbers.items;
}
