use Rattle.std.proofs.Common.{map, drop}
use Rattle.net_model.specs.Written.{model_of_unit}
use Rattle.net_elab.proofs.Scans.{Scanned}
use Rattle.net_elab.proofs.numbers.numbered.Given as goal

abbrev pub invariant-loop-unit : goal.invariant-loop-unit
invariant-loop-unit l = Scanned (map model_of_unit l.declared) l.unit-index (map model_of_unit (drop l.unit-index l.unit-items)) l.start l.storage l.made.nets l.made.storages l.made.wires
