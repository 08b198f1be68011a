use Rattle.word_fit.proofs.Runs.{runs_steps, runs_to}
use Rattle.word_fit.proofs.laws.law_of_runs.Goals as goal

pub returns-clause-groups : goal.returns-clause-groups
returns-clause-groups c = λ netlist order m code words groups after s keeps f state stand room. runs_to netlist order keeps code m after words groups s f state stand room

pub returns-clause-steps : goal.returns-clause-steps
returns-clause-steps c = λ netlist order m code words steps after s keeps f state stand room. runs_steps netlist order keeps m code after words steps s f state stand room
