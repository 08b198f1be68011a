use Rattle.std.proofs.Common.{◌≡◌, map, drop}
use Rattle.rec_bits.specs.Faults.{lesser_offset, least, gather}
use Rattle.net_model.specs.DriverRules.{undriven}
use Rattle.net_model.specs.Written.{model_of_unit}
use Rattle.net_rules.proofs.drivers.first_undriven.Given as goal

abbrev pub invariant-loop-i : goal.invariant-loop-i
invariant-loop-i l =
    lesser_offset l.found (least (gather (undriven (map model_of_unit l.text)) (map model_of_unit (drop l.i l.units)))) ≡ least (gather (undriven (map model_of_unit l.text)) (map model_of_unit l.units))
