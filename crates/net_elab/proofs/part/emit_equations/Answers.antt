use Rattle.std.proofs.Common.{arith}
use Rattle.std.proofs.lemmas.Grind.{common_steps}
use Rattle.net_elab.proofs.part.emit_equations.Goals as goal

pub emit_equation-requires-clause-fed : goal.emit_equation-requires-clause-fed
emit_equation-requires-clause-fed c = grind (arith, common_steps)

pub emit_equation-requires-clause-room : goal.emit_equation-requires-clause-room
emit_equation-requires-clause-room c = grind (arith, common_steps)

pub loop-port-preserved : goal.loop-port-preserved
loop-port-preserved c = grind (arith, common_steps)

pub returns : goal.returns
returns c = grind (arith, common_steps)
