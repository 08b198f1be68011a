use Rattle.std.proofs.Common.{map, drop}
use Rattle.net_model.specs.Written.{model_of_unit}
use Rattle.net_elab.proofs.Drivers.{Elaborating}
use Rattle.net_elab.proofs.whole.emit_items.Given as goal

abbrev pub invariant-loop-unit : goal.invariant-loop-unit
invariant-loop-unit l = Elaborating (map model_of_unit l.text) l.unit-index (map model_of_unit (drop l.unit-index l.unit-items)) l.netlist
