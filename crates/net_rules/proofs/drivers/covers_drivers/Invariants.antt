use Rattle.std.proofs.Common.{◌≡◌, map, drop}
use Rattle.std.specs.List.{list_all}
use Rattle.net_model.specs.DriverRules.{covers_driver}
use Rattle.net_model.specs.Written.{driver_of}
use Rattle.net_rules.specs.Inner.Scopes.{model_of_scope}
use Rattle.net_rules.proofs.drivers.covers_drivers.Given as goal

abbrev pub invariant-loop-driver : goal.invariant-loop-driver
invariant-loop-driver l = list_all (covers_driver (model_of_scope l.place)) (map driver_of (drop l.driver-index l.drivers)) ≡ list_all (covers_driver (model_of_scope l.place)) (map driver_of l.drivers)
