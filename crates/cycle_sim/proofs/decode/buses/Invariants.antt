use Rattle.std.proofs.Common.{◌≡◌, ◌++◌, drop}
use Rattle.cycle_sim.specs.Inner.Decoding.{buses_from, source_in}
use Rattle.cycle_sim.proofs.decode.buses.Given as goal

abbrev pub invariant-loop-at : goal.invariant-loop-at
invariant-loop-at l =
    buses_from (source_in l.sources) 0 l.nets ≡ l.buses ++ buses_from (source_in l.sources) l.at (drop l.at l.nets)
