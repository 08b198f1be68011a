use Rattle.std.proofs.Common.{arith}
use Rattle.std.proofs.lemmas.Grind.{common_steps}
use Rattle.net_elab.proofs.count.count_inputs.Goals as goal

pub count_input-total-requires : goal.count_input-total-requires
count_input-total-requires c = grind (arith, common_steps)

pub overflow_add-total : goal.overflow_add-total
overflow_add-total c = grind (arith, common_steps)

pub loop-port-preserved : goal.loop-port-preserved
loop-port-preserved c = grind (arith, common_steps)

pub returns : goal.returns
returns c = grind (arith, common_steps)
