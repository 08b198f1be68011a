use Rattle.std.proofs.Common.{◌≡◌, map, drop}
use Rattle.std.specs.List.{list_all}
use Rattle.net_model.specs.Written.{binding_of}
use Rattle.net_names.specs.Places.{lent}
use Rattle.net_rules.specs.Inner.Modules.{is_bound}
use Rattle.net_rules.proofs.drivers.are_bound.Given as goal

abbrev pub invariant-loop-input : goal.invariant-loop-input
invariant-loop-input l = list_all (is_bound (map binding_of l.links)) (map lent (drop l.input-index l.inputs)) ≡ list_all (is_bound (map binding_of l.links)) (map lent l.inputs)
