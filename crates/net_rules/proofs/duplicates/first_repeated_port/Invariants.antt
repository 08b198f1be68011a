use Rattle.std.proofs.Common.{◌≡◌, map, drop}
use Rattle.rec_bits.specs.Faults.{lesser_offset, least, gather}
use Rattle.net_model.specs.NameRules.{repeated_ports}
use Rattle.net_model.specs.Written.{model_of_unit}
use Rattle.net_rules.proofs.duplicates.first_repeated_port.Given as goal

abbrev pub invariant-loop-unit : goal.invariant-loop-unit
invariant-loop-unit l = lesser_offset l.found (least (gather repeated_ports (map model_of_unit (drop l.unit-index l.units)))) ≡ least (gather repeated_ports (map model_of_unit l.units))
