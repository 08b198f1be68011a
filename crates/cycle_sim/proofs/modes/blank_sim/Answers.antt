use Rattle.net_model.proofs.Blanks.{blank_state}
use Rattle.cycle_sim.proofs.modes.blank_sim.Goals as goal

pub new-requires-clause-start : goal.new-requires-clause-start
new-requires-clause-start c = rw c.in_ok-state.ensures (blank_state c.args.base.now.netlist)
