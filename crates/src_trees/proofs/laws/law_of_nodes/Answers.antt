use Rattle.src_trees.proofs.Nodes.{program_most, program_nodes}
use Rattle.src_trees.proofs.laws.law_of_nodes.Goals as goal

pub returns-clause-count : goal.returns-clause-count
returns-clause-count c = program_nodes

pub returns-clause-most : goal.returns-clause-most
returns-clause-most c = program_most
