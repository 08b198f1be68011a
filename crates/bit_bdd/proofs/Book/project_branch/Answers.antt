use Rattle.std.proofs.Common.{arith}
use Rattle.std.proofs.lemmas.Grind.{common_steps}
use Rattle.bit_bdd.proofs.Book.project_branch.Goals as goal

pub returns-else-mask-bit-eq1-clause-set : goal.returns-else-mask-bit-eq1-clause-set
returns-else-mask-bit-eq1-clause-set c = grind (arith, common_steps)
