use Rattle.std.proofs.Common.{arith}
use Rattle.std.proofs.lemmas.Grind.{common_steps, elements}
use Rattle.net_rules.proofs.widths.first_misfit.Goals as goal

pub loop-i-preserved : goal.loop-i-preserved
loop-i-preserved c = grind (arith, common_steps)

pub returns : goal.returns
returns c = grind (arith, common_steps)

pub widths_fit-fits-requires : goal.widths_fit-fits-requires
widths_fit-fits-requires c = grind (arith, elements)
