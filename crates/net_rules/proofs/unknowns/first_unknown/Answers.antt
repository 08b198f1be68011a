use Rattle.std.proofs.Common.{map, arith}
use Rattle.std.proofs.lemmas.Grind.{common_steps, elements}
use Rattle.net_model.specs.NameRules.{unknown_in_item}
use Rattle.net_model.specs.Written.{model_of_unit}
use Rattle.net_rules.proofs.Scans.{gathered_next}
use Rattle.net_rules.proofs.unknowns.first_unknown.Goals as goal

pub loop-i-preserved : goal.loop-i-preserved
loop-i-preserved c =
    rw (c.lesser_offset-found.ensures, c.unknown_in_item.ensures)
    (gathered_next (unknown_in_item (map model_of_unit c.args.text.now)) model_of_unit c.args.units.now c.loop-i.i c.index-units-i.result c.loop-i.found _ c.loop-i-test.true c.index-units-i.is c.loop-i.invariant)

pub returns : goal.returns
returns c = grind (arith, common_steps)

pub unknown_in_item-requires : goal.unknown_in_item-requires
unknown_in_item-requires c = grind (arith, elements)
