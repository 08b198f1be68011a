use Rattle.cycle_sim.proofs.Runs.{Built}
use Rattle.cycle_sim.proofs.program.instructions.Given as goal

abbrev pub invariant-loop-id : goal.invariant-loop-id
invariant-loop-id l = Built l.checked.netlist l.checked.order l.id-index l.instructions
