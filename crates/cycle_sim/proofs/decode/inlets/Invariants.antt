use Rattle.std.proofs.Common.{◌≡◌, ◌++◌, drop}
use Rattle.cycle_sim.specs.Inner.Decoding.{inlets_from}
use Rattle.cycle_sim.proofs.decode.inlets.Given as goal

abbrev pub invariant-loop-at : goal.invariant-loop-at
invariant-loop-at l = inlets_from 0 l.nets ≡ l.inlets ++ inlets_from l.at (drop l.at l.nets)
