use Rattle.std.proofs.Common.{◌≡◌, ◌+◌, ◌≤◌, drop}
use Rattle.test_run.specs.Text.{detected_count}
use Rattle.test_run.proofs.writing.count_detected.Given as goal

abbrev pub invariant-loop-finding : goal.invariant-loop-finding
invariant-loop-finding l = record {
  few : l.count ≤ l.finding-index;
  so_far : detected_count l.found ≡ l.count + detected_count (drop l.finding-index l.found);
}
