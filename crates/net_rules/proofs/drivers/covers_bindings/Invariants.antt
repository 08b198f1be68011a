use Rattle.std.proofs.Common.{◌≡◌, map, drop}
use Rattle.std.specs.List.{list_all}
use Rattle.net_model.specs.DriverRules.{covers_binding}
use Rattle.net_model.specs.Written.{binding_of}
use Rattle.net_rules.specs.Inner.Scopes.{model_of_scope}
use Rattle.net_rules.proofs.drivers.covers_bindings.Given as goal

abbrev pub invariant-loop-binding : goal.invariant-loop-binding
invariant-loop-binding l = list_all (covers_binding (model_of_scope l.place)) (map binding_of (drop l.binding-index l.bindings)) ≡ list_all (covers_binding (model_of_scope l.place)) (map binding_of l.bindings)
