use Rattle.std.proofs.Common.{arith}
use Rattle.std.proofs.lemmas.Grind.{elements}
use Rattle.net_elab.proofs.declared.Declared.equations.Goals as goal

pub returns-in-Some-Module-clause-keeps : goal.returns-in-Some-Module-clause-keeps
returns-in-Some-Module-clause-keeps c = grind (arith, elements)
