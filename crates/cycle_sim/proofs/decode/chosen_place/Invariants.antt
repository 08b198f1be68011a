use Rattle.std.proofs.Common.{◌≡◌, drop}
use Rattle.cycle_sim.specs.Inner.Decoding.{chosen, source_in}
use Rattle.cycle_sim.proofs.decode.chosen_place.Given as goal

abbrev pub invariant-loop-row : goal.invariant-loop-row
invariant-loop-row l =
    chosen (source_in l.sources) l.key l.rows l.rest ≡ chosen (source_in l.sources) l.key (drop l.row-index l.rows) l.rest
