use Rattle.std.proofs.Common.{◌≡◌}
use Rattle.cycle_sim.specs.Inner.Decoding.{source_in, table_of}
use Rattle.cycle_sim.proofs.decode.table.Given as goal

abbrev pub invariant-loop-key : goal.invariant-loop-key
invariant-loop-key l = l.places ≡ table_of (source_in l.sources) l.rows l.rest l.key
