use Rattle.std.proofs.Common.{◌≡◌, drop}
use Rattle.std.specs.List.{list_all}
use Rattle.net_model.specs.WidthRules.{port_keeps}
use Rattle.net_rules.proofs.widths.ports_keep.Given as goal

abbrev pub invariant-loop-port : goal.invariant-loop-port
invariant-loop-port l = list_all port_keeps (drop l.port-index l.ports) ≡ list_all port_keeps l.ports
