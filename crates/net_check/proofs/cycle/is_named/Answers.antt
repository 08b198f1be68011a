use Rattle.std.proofs.Common.{arith}
use Rattle.std.proofs.lemmas.Grind.{common_steps}
use Rattle.net_check.proofs.cycle.is_named.Goals as goal

pub returns-then-other-net : goal.returns-then-other-net
returns-then-other-net c = grind (arith, common_steps)

pub loop-other-preserved : goal.loop-other-preserved
loop-other-preserved c = grind (arith, common_steps)

pub returns : goal.returns
returns c = grind (arith, common_steps)
