use Rattle.std.proofs.Common.{arith}
use Rattle.std.proofs.lemmas.Grind.{common_steps}
use Rattle.net_elab.proofs.part.emit_outputs.Goals as goal

pub emit_output-requires-clause-narrow : goal.emit_output-requires-clause-narrow
emit_output-requires-clause-narrow c = grind (arith, common_steps)

pub emit_output-requires-clause-fed : goal.emit_output-requires-clause-fed
emit_output-requires-clause-fed c = grind (arith, common_steps)

pub emit_output-requires-clause-behind : goal.emit_output-requires-clause-behind
emit_output-requires-clause-behind c = grind (arith, common_steps)

pub count_equation-next-requires : goal.count_equation-next-requires
count_equation-next-requires c = grind (arith, common_steps)

pub overflow_add-next : goal.overflow_add-next
overflow_add-next c = grind (arith, common_steps)

pub loop-port-preserved : goal.loop-port-preserved
loop-port-preserved c = grind (arith, common_steps)

pub returns : goal.returns
returns c = grind (arith, common_steps)
