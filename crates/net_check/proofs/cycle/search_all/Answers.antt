use Rattle.std.proofs.Common.{arith}
use Rattle.std.proofs.lemmas.Grind.{common_steps}
use Rattle.net_check.proofs.SearchEnds.{partition_of}
use Rattle.net_check.proofs.cycle.search_all.Goals as goal

pub returns : goal.returns
returns c = partition_of _ _ _ _ _ c.loop-root.invariant.kept c.loop-root.invariant.empty (λ m h. c.loop-root.invariant.done m (omega (arith, h, c.loop-root-test.false)))

pub loop-root-init : goal.loop-root-init
loop-root-init c = grind (arith, common_steps)
