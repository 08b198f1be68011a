use Rattle.std.proofs.Common.{arith}
use Rattle.std.proofs.lemmas.Grind.{common_steps, elements}
use Rattle.net_rules.proofs.drivers.first_undriven.Goals as goal

pub returns : goal.returns
returns c = grind (arith, common_steps)

pub is_driven_item-requires : goal.is_driven_item-requires
is_driven_item-requires c = grind (arith, elements)
