use Rattle.std.proofs.Common.{arith}
use Rattle.std.proofs.lemmas.Grind.{elements}
use Rattle.net_elab.proofs.declared.Declared.cell_width.Goals as goal

pub returns-in-Memory-clause-narrow : goal.returns-in-Memory-clause-narrow
returns-in-Memory-clause-narrow c = grind (arith, elements)
