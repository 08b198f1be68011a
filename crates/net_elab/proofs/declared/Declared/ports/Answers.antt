use Rattle.std.proofs.Common.{arith}
use Rattle.std.proofs.lemmas.Grind.{elements}
use Rattle.net_elab.proofs.declared.Declared.ports.Goals as goal

pub returns-in-Some-Module-clause-narrow : goal.returns-in-Some-Module-clause-narrow
returns-in-Some-Module-clause-narrow c = grind (arith, elements)
