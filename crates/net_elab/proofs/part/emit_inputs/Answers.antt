use Rattle.std.proofs.Common.{arith}
use Rattle.std.proofs.lemmas.Grind.{common_steps}
use Rattle.net_elab.proofs.part.emit_inputs.Goals as goal

pub emit_input-requires-clause-narrow : goal.emit_input-requires-clause-narrow
emit_input-requires-clause-narrow c = grind (arith, common_steps)

pub emit_input-requires-clause-fed : goal.emit_input-requires-clause-fed
emit_input-requires-clause-fed c = grind (arith, common_steps)

pub emit_input-requires-clause-room : goal.emit_input-requires-clause-room
emit_input-requires-clause-room c = grind (arith, common_steps)

pub loop-port-preserved : goal.loop-port-preserved
loop-port-preserved c = grind (arith, common_steps)

pub returns : goal.returns
returns c = grind (arith, common_steps)
