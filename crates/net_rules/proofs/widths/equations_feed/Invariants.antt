use Rattle.std.proofs.Common.{◌≡◌, map, drop, true}
use Rattle.std.specs.List.{list_all}
use Rattle.net_model.specs.TextNames.{in_module}
use Rattle.net_model.specs.WidthRules.{binding_feeds}
use Rattle.net_model.specs.Written.{binding_of}
use Rattle.net_rules.proofs.widths.equations_feed.Given as goal

abbrev pub invariant-loop-equation : goal.invariant-loop-equation
invariant-loop-equation l =
    list_all (binding_feeds true l.ports (in_module l.ports)) (map binding_of (drop l.equation-index l.equations)) ≡ list_all (binding_feeds true l.ports (in_module l.ports)) (map binding_of l.equations)
