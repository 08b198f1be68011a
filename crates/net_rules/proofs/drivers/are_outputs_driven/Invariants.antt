use Rattle.std.proofs.Common.{◌≡◌, map, drop, true}
use Rattle.std.specs.List.{list_all}
use Rattle.net_model.specs.DriverRules.{is_driven}
use Rattle.net_model.specs.Written.{binding_of}
use Rattle.net_rules.proofs.drivers.are_outputs_driven.Given as goal

abbrev pub invariant-loop-port : goal.invariant-loop-port
invariant-loop-port l = list_all (is_driven true (map binding_of l.equations)) (drop l.port-index l.ports) ≡ list_all (is_driven true (map binding_of l.equations)) l.ports
