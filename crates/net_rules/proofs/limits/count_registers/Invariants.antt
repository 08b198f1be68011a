use Rattle.std.proofs.Common.{map, drop}
use Rattle.net_model.specs.LimitRules.{count_registers}
use Rattle.net_model.specs.Written.{model_of_unit}
use Rattle.net_rules.specs.Inner.Counts.{Counted}
use Rattle.net_rules.proofs.limits.count_registers.Given as goal

abbrev pub invariant-loop-unit : goal.invariant-loop-unit
invariant-loop-unit l = Counted l.total (count_registers (map model_of_unit (drop l.unit-index l.units))) (count_registers (map model_of_unit l.units))
