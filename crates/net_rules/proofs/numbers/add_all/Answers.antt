use Rattle.std.proofs.Common.{arith}
use Rattle.std.proofs.lemmas.Grind.{common_steps}
use Rattle.net_rules.proofs.numbers.add_all.Goals as goal

pub returns-clause-all : goal.returns-clause-all
returns-clause-all c = grind (arith, common_steps)

pub returns-clause-new : goal.returns-clause-new
returns-clause-new c = grind (arith, common_steps)
