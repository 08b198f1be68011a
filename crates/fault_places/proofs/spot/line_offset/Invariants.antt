use Rattle.std.proofs.Common.{◌≤◌}
use Rattle.fault_places.proofs.spot.line_offset.Given as goal

abbrev pub invariant-loop-at : goal.invariant-loop-at
invariant-loop-at l = l.line ≤ l.at
