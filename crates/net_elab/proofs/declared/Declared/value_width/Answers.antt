use Rattle.std.proofs.Common.{arith}
use Rattle.std.proofs.lemmas.Grind.{elements}
use Rattle.net_elab.proofs.declared.Declared.value_width.Goals as goal

pub returns-in-Code-clause-narrow : goal.returns-in-Code-clause-narrow
returns-in-Code-clause-narrow c = grind (arith, elements)
