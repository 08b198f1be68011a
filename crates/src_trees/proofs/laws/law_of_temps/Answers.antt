use Rattle.src_trees.proofs.Measured.{program_small}
use Rattle.src_trees.proofs.Temps.{program_temps}
use Rattle.src_trees.proofs.laws.law_of_temps.Goals as goal

pub returns-clause-count : goal.returns-clause-count
returns-clause-count c = program_temps

pub returns-clause-small : goal.returns-clause-small
returns-clause-small c = program_small
