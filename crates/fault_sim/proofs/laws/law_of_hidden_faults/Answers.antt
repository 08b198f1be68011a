use Rattle.fault_sim.proofs.Masked.{hidden_clock}
use Rattle.fault_sim.proofs.laws.law_of_hidden_faults.Goals as goal

pub returns : goal.returns
returns c = λ netlist order o fault f words s h. hidden_clock netlist order o fault f words s h
