use Rattle.net_model.specs.NameRules.{repeated_ports}
use Rattle.net_model.specs.Written.{model_of_unit}
use Rattle.net_rules.proofs.Scans.{gathered_next}
use Rattle.net_rules.proofs.duplicates.first_repeated_port.Goals as goal

pub loop-unit-preserved : goal.loop-unit-preserved
loop-unit-preserved c =
    rw (c.lesser_offset-found.ensures, c.in_ok-repeated_in.ensures)
    (gathered_next repeated_ports model_of_unit c.args.units.now c.loop-unit.unit-index c.unit-item.result c.loop-unit.found _ c.loop-unit-test.true c.unit-item.is c.loop-unit.invariant)
