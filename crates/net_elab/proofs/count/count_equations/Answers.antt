use Rattle.std.proofs.Common.{arith}
use Rattle.std.proofs.lemmas.Grind.{common_steps}
use Rattle.net_elab.proofs.count.count_equations.Goals as goal

pub count_equation-total-requires : goal.count_equation-total-requires
count_equation-total-requires c = grind (arith, common_steps)

pub overflow_add-total : goal.overflow_add-total
overflow_add-total c = grind (arith, common_steps)

pub loop-port-preserved : goal.loop-port-preserved
loop-port-preserved c = grind (arith, common_steps)

pub returns : goal.returns
returns c = grind (arith, common_steps)
