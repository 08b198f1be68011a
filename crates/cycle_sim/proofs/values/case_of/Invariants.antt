use Rattle.std.proofs.Common.{◌≡◌, drop, slice_index}
use Rattle.net_model.specs.Value.{case_value}
use Rattle.cycle_sim.proofs.values.case_of.Given as goal

abbrev pub invariant-loop-row : goal.invariant-loop-row
invariant-loop-row l =
    case_value (slice_index l.values) l.key l.rows l.rest ≡ case_value (slice_index l.values) l.key (drop l.row-index l.rows) l.rest
