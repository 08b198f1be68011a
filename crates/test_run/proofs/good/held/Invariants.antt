use Rattle.std.proofs.Common.{◌≡◌, take}
use Rattle.test_run.proofs.good.held.Given as goal

abbrev pub invariant-loop-address : goal.invariant-loop-address
invariant-loop-address l = l.cells ≡ take l.address l.sim.state.cells
