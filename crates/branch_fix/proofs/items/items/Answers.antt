use Rattle.std.proofs.Common.{arith}
use Rattle.std.proofs.lemmas.Grind.{common_steps}
use Rattle.branch_fix.proofs.items.items.Goals as goal

pub push_part-requires : goal.push_part-requires
push_part-requires c = grind (arith, common_steps)

pub overflow_add-address : goal.overflow_add-address
overflow_add-address c = grind (arith, common_steps)

pub loop-part-preserved : goal.loop-part-preserved
loop-part-preserved c = grind (arith, common_steps)

pub returns : goal.returns
returns c = grind (arith, common_steps)
