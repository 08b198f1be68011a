use Rattle.std.proofs.Common.{arith}
use Rattle.std.proofs.lemmas.Grind.{elements}
use Rattle.least_costs.proofs.table.matches_in.Goals as goal

pub returns-then-deref-whole : goal.returns-then-deref-whole
returns-then-deref-whole c = grind (arith, elements)
