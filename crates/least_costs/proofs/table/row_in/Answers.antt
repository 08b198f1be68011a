use Rattle.std.proofs.Common.{arith}
use Rattle.std.proofs.lemmas.Grind.{elements}
use Rattle.least_costs.proofs.table.row_in.Goals as goal

pub returns-then-row-whole : goal.returns-then-row-whole
returns-then-row-whole c = grind (arith, elements)
