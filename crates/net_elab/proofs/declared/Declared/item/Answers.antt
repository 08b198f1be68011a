use Rattle.std.proofs.Common.{arith}
use Rattle.std.proofs.lemmas.Grind.{elements}
use Rattle.net_elab.proofs.declared.Declared.item.Goals as goal

pub returns-clause-keeps : goal.returns-clause-keeps
returns-clause-keeps c = grind (arith, elements)
