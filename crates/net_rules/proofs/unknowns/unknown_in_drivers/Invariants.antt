use Rattle.std.proofs.Common.{◌≡◌, map, drop}
use Rattle.rec_bits.specs.Faults.{lesser_offset, least, gather}
use Rattle.net_model.specs.NameRules.{unknown_driver}
use Rattle.net_model.specs.Written.{driver_of}
use Rattle.net_rules.specs.Inner.Scopes.{model_of_scope}
use Rattle.net_rules.proofs.unknowns.unknown_in_drivers.Given as goal

abbrev pub invariant-loop-driver : goal.invariant-loop-driver
invariant-loop-driver l =
    lesser_offset l.found (least (gather (unknown_driver (model_of_scope l.place)) (map driver_of (drop l.driver-index l.drivers)))) ≡ least (gather (unknown_driver (model_of_scope l.place)) (map driver_of l.drivers))
