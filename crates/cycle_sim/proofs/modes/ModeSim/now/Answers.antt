use Rattle.cycle_sim.proofs.Sims.{held_by}
use Rattle.cycle_sim.proofs.modes.ModeSim.now.Goals as goal

pub returns : goal.returns
returns c = rw (← c.self.view_is) (held_by c.self.inside.modes.now.netlist c.self.inside.sims.items c.self.inside.mode c.self.invariant.0 c.index.result.now c.index.ensures)
