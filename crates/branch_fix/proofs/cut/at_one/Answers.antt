use Rattle.std.proofs.Common.{arith}
use Rattle.std.proofs.lemmas.Grind.{elements}
use Rattle.branch_fix.proofs.cut.at_one.Goals as goal

pub returns-in-None : goal.returns-in-None
returns-in-None c = grind (arith, elements)

pub returns-in-Branch : goal.returns-in-Branch
returns-in-Branch c = grind (arith, elements)

pub returns-in_default : goal.returns-in_default
returns-in_default c = grind (arith, elements)
