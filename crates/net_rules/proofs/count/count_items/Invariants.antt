use Rattle.std.proofs.Common.{map, drop}
use Rattle.net_model.specs.Written.{model_of_unit}
use Rattle.net_model.specs.Numbering.{count_items}
use Rattle.net_rules.specs.Inner.Counts.{Counted}
use Rattle.net_rules.proofs.count.count_items.Given as goal

abbrev pub invariant-loop-unit : goal.invariant-loop-unit
invariant-loop-unit l = Counted l.total (count_items (map model_of_unit l.text) (map model_of_unit (drop l.unit-index l.units))) (count_items (map model_of_unit l.text) (map model_of_unit l.units))
