use Rattle.std.proofs.Common.{arith}
use Rattle.std.proofs.lemmas.Grind.{common_steps}
use Rattle.net_elab.proofs.item.emit_drivers.Goals as goal

pub emit-requires-clause-widths : goal.emit-requires-clause-widths
emit-requires-clause-widths c = grind (arith, common_steps)

pub emit-requires-clause-room : goal.emit-requires-clause-room
emit-requires-clause-room c = grind (arith, common_steps)

pub emit-requires-in-loop-driver-clause-widths : goal.emit-requires-in-loop-driver-clause-widths
emit-requires-in-loop-driver-clause-widths c = grind (arith, common_steps)

pub emit-requires-in-loop-driver-clause-room : goal.emit-requires-in-loop-driver-clause-room
emit-requires-in-loop-driver-clause-room c = grind (arith, common_steps)

pub loop-driver-preserved : goal.loop-driver-preserved
loop-driver-preserved c = grind (arith, common_steps)

pub returns : goal.returns
returns c = grind (arith, common_steps)
