use Rattle.std.proofs.Common.{◌≡◌, max, map, drop}
use Rattle.net_model.specs.LimitRules.{greatest, words_of_unit}
use Rattle.net_model.specs.Written.{model_of_unit}
use Rattle.net_rules.proofs.limits.greatest_code.Given as goal

abbrev pub invariant-loop-unit : goal.invariant-loop-unit
invariant-loop-unit l = max l.size (greatest words_of_unit (map model_of_unit (drop l.unit-index l.units))) ≡ greatest words_of_unit (map model_of_unit l.units)
