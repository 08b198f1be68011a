use Rattle.fault_sim.proofs.Counting.{faults_counted}
use Rattle.fault_sim.proofs.laws.law_of_fault_count.Goals as goal

pub returns : goal.returns
returns c = λ netlist. faults_counted 0 netlist.nets
