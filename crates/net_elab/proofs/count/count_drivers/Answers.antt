use Rattle.std.proofs.Common.{arith}
use Rattle.std.proofs.lemmas.Grind.{common_steps}
use Rattle.net_elab.proofs.count.count_drivers.Goals as goal

pub count_nets-requires : goal.count_nets-requires
count_nets-requires c = grind (arith, common_steps)

pub count_nets-requires-in-loop-driver : goal.count_nets-requires-in-loop-driver
count_nets-requires-in-loop-driver c = grind (arith, common_steps)

pub overflow_add-total : goal.overflow_add-total
overflow_add-total c = grind (arith, common_steps)

pub overflow_add-total-in-loop-driver : goal.overflow_add-total-in-loop-driver
overflow_add-total-in-loop-driver c = grind (arith, common_steps)

pub loop-driver-preserved : goal.loop-driver-preserved
loop-driver-preserved c = grind (arith, common_steps)

pub returns : goal.returns
returns c = grind (arith, common_steps)
