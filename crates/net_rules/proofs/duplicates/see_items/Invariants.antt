use Rattle.std.proofs.Common.{map, drop, []}
use Rattle.rec_bits.specs.Faults.{least}
use Rattle.net_model.specs.NameRules.{repeated}
use Rattle.net_model.specs.TextNames.{own_name}
use Rattle.net_model.specs.Written.{model_of_unit}
use Rattle.net_rules.specs.Inner.Scans.{Repeating}
use Rattle.net_rules.proofs.duplicates.see_items.Given as goal

abbrev pub invariant-loop-unit : goal.invariant-loop-unit
invariant-loop-unit l = Repeating l.seen l.found (map own_name (map model_of_unit (drop l.unit-index l.units))) (least (repeated [] (map own_name (map model_of_unit l.units))))
