use Rattle.branch_fix.proofs.Costs.{bound_is, program_words, turned_bound, turned_words}
use Rattle.branch_fix.proofs.laws.law_of_bounds.Goals as goal

pub returns-clause-program : goal.returns-clause-program
returns-clause-program c = program_words

pub returns-clause-blocks : goal.returns-clause-blocks
returns-clause-blocks c = bound_is

pub returns-clause-turned : goal.returns-clause-turned
returns-clause-turned c = turned_words

pub returns-clause-turned_blocks : goal.returns-clause-turned_blocks
returns-clause-turned_blocks c = turned_bound
