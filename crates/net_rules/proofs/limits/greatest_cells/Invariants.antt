use Rattle.std.proofs.Common.{◌≡◌, max, map, drop}
use Rattle.net_model.specs.LimitRules.{greatest, cells_of}
use Rattle.net_model.specs.Written.{model_of_unit}
use Rattle.net_rules.proofs.limits.greatest_cells.Given as goal

abbrev pub invariant-loop-unit : goal.invariant-loop-unit
invariant-loop-unit l = max l.size (greatest (cells_of l.space) (map model_of_unit (drop l.unit-index l.units))) ≡ greatest (cells_of l.space) (map model_of_unit l.units)
