use Rattle.std.proofs.Common.{arith}
use Rattle.std.proofs.lemmas.Grind.{common_steps}
use Rattle.net_elab.proofs.numbers.numbered.Goals as goal

pub count_item-requires : goal.count_item-requires
count_item-requires c = grind (arith, common_steps)

pub overflow_add-next : goal.overflow_add-next
overflow_add-next c = grind (arith, common_steps)

pub item_wires-requires : goal.item_wires-requires
item_wires-requires c = grind (arith, common_steps)

pub overflow_add-storage : goal.overflow_add-storage
overflow_add-storage c = grind (arith, common_steps)

pub loop-unit-preserved : goal.loop-unit-preserved
loop-unit-preserved c = grind (arith, common_steps)

pub returns : goal.returns
returns c = grind (arith, common_steps)
