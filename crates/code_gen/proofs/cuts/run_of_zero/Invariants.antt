use Rattle.std.proofs.Common.{◌≡◌, ◌+◌, ◌-◌, ◌<◌, ◌≤◌, ℕ}
use Rattle.code_gen.specs.Inner.Views.{place_mode}
use Rattle.code_gen.proofs.cuts.run_of_zero.Given as goal

abbrev pub invariant-loop-count : goal.invariant-loop-count
invariant-loop-count l = record {
  within : l.at + l.count ≤ l.end;
  zero : (k : ℕ) → k < l.count → place_mode l.program (l.at + k) ≡ 0;
}

abbrev pub decreases-loop-count : goal.decreases-loop-count
decreases-loop-count l = l.end - (l.at + l.count)
