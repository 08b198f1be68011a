use Rattle.std.proofs.Common.{◌≡◌, ◌++◌, drop}
use Rattle.cycle_sim.specs.Inner.Decoding.{rows_by, source_in}
use Rattle.cycle_sim.proofs.decode.rows_of.Given as goal

abbrev pub invariant-loop-row : goal.invariant-loop-row
invariant-loop-row l =
    rows_by (source_in l.sources) l.rows ≡ l.list ++ rows_by (source_in l.sources) (drop l.row-index l.rows)
