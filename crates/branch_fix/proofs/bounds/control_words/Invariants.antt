use Rattle.std.proofs.Common.{◌≡◌, ◌≤◌, ◌+◌, ◌*◌, drop}
use Rattle.branch_fix.specs.Bounds.{control_words}
use Rattle.branch_fix.proofs.bounds.control_words.Given as goal

abbrev pub invariant-loop-place : goal.invariant-loop-place
invariant-loop-place l = record {
  sum : l.words + control_words (drop l.place-index l.flow) ≡ control_words l.flow;
  few : l.words ≤ 3 * l.place-index;
}
