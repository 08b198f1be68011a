use Rattle.std.proofs.Common.{◌≡◌, ◌≤◌, ◌+◌, drop}
use Rattle.branch_fix.specs.Rounds.{long_tests}
use Rattle.branch_fix.proofs.widen.long_tests.Given as goal

abbrev pub invariant-loop-part : goal.invariant-loop-part
invariant-loop-part l = record {
  sum : l.count + long_tests (drop l.part-index l.parts) ≡ long_tests l.parts;
  few : l.count ≤ l.part-index;
}
