use Rattle.std.proofs.Common.{arith}
use Rattle.std.proofs.lemmas.Grind.{common_steps}
use Rattle.net_elab.proofs.whole.emit_items.Goals as goal

pub emit_item-requires-clause-keeps : goal.emit_item-requires-clause-keeps
emit_item-requires-clause-keeps c = grind (arith, common_steps)

pub emit_item-requires-clause-room : goal.emit_item-requires-clause-room
emit_item-requires-clause-room c = grind (arith, common_steps)

pub loop-unit-preserved : goal.loop-unit-preserved
loop-unit-preserved c = grind (arith, common_steps)

pub returns : goal.returns
returns c = grind (arith, common_steps)
