use Rattle.net_model.specs.NameRules.{unknown_driver}
use Rattle.net_model.specs.Written.{driver_of}
use Rattle.net_rules.specs.Inner.Scopes.{model_of_scope}
use Rattle.net_rules.proofs.Scans.{gathered_next}
use Rattle.net_rules.proofs.unknowns.unknown_in_drivers.Goals as goal

pub loop-driver-preserved : goal.loop-driver-preserved
loop-driver-preserved c =
    rw (c.lesser_offset-found.ensures, c.unknown_driver.ensures)
    (gathered_next (unknown_driver (model_of_scope c.args.place.now)) driver_of c.args.drivers.now c.loop-driver.driver-index c.driver-item.result c.loop-driver.found _ c.loop-driver-test.true c.driver-item.is c.loop-driver.invariant)
