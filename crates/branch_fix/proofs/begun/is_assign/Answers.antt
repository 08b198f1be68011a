use Rattle.std.proofs.Common.{arith}
use Rattle.std.proofs.lemmas.Grind.{elements}
use Rattle.branch_fix.proofs.begun.is_assign.Goals as goal

pub returns-in-Some-Assign : goal.returns-in-Some-Assign
returns-in-Some-Assign c = grind (arith, elements)

pub returns-in_default : goal.returns-in_default
returns-in_default c = grind (arith, elements)

pub returns-in_default-2 : goal.returns-in_default-2
returns-in_default-2 c = grind (arith, elements)
