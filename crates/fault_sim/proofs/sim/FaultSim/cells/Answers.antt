use Rattle.std.proofs.Common.{arith, ap, length}
use Rattle.net_model.specs.declared.hardware.Space.TheVariants.{Memory as InMemory}
use Rattle.fault_sim.proofs.sim.FaultSim.cells.Goals as goal

pub returns-clause-few : goal.returns-clause-few
returns-clause-few c =
    omega (arith, ap length c.as_slice.ensures, c.self.invariant.state.cells InMemory, c.self.invariant.few InMemory)
