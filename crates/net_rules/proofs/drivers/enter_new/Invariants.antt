use Rattle.std.proofs.Common.{map, drop, []}
use Rattle.net_model.specs.DriverRules.{names_new, binding_name}
use Rattle.net_model.specs.Written.{binding_of}
use Rattle.net_rules.specs.Inner.Scans.{AllNew}
use Rattle.net_rules.proofs.drivers.enter_new.Given as goal

abbrev pub invariant-loop-binding : goal.invariant-loop-binding
invariant-loop-binding l = AllNew l.seen (map binding_name (map binding_of (drop l.binding-index l.bindings))) (names_new [] (map binding_name (map binding_of l.bindings)))
