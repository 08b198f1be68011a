use Rattle.branch_fix.proofs.LaidRight.{laid_right, turned_right}
use Rattle.branch_fix.proofs.laws.law_of_layouts.Goals as goal

pub returns-clause-own : goal.returns-clause-own
returns-clause-own c = laid_right

pub returns-clause-turned : goal.returns-clause-turned
returns-clause-turned c = turned_right
