use Rattle.fault_sim.proofs.Good.{good_clock, good_run, good_value}
use Rattle.fault_sim.proofs.laws.law_of_no_fault.Goals as goal

pub returns-clause-values : goal.returns-clause-values
returns-clause-values c = good_value

pub returns-clause-clocks : goal.returns-clause-clocks
returns-clause-clocks c = good_clock

pub returns-clause-runs : goal.returns-clause-runs
returns-clause-runs c = good_run
