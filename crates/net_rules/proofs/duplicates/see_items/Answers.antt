use Rattle.std.proofs.Common.{arith}
use Rattle.std.proofs.lemmas.Grind.{common_steps}
use Rattle.net_rules.proofs.Scans.{repeating_next, own_names_from}
use Rattle.net_rules.proofs.duplicates.see_items.Goals as goal

pub loop-unit-preserved : goal.loop-unit-preserved
loop-unit-preserved c =
    let parts = own_names_from c.args.units.now c.loop-unit.unit-index c.unit-item.result c.name_of.result.now c.loop-unit-test.true c.unit-item.is c.name_of.ensures in
    rw (c.lesser_offset-found.ensures, c.in_ok-see.ensures.found)
    (repeating_next c.loop-unit.seen c.see.new.seen c.loop-unit.found _ _ _ c.name_of.result.now parts c.in_ok-see.ensures.seen c.loop-unit.invariant)

pub returns : goal.returns
returns c = grind (arith, common_steps)
