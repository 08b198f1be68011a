use Rattle.src_trees.proofs.Following.{own_meaning, own_does, program_does}
use Rattle.src_trees.proofs.laws.law_of_jobs.Goals as goal

pub returns-clause-own : goal.returns-clause-own
returns-clause-own c = own_meaning

pub returns-clause-all : goal.returns-clause-all
returns-clause-all c = own_does

pub returns-clause-changed : goal.returns-clause-changed
returns-clause-changed c = program_does
