use Rattle.std.proofs.Common.{drop, map}
use Rattle.net_model.specs.Written.{binding_of}
use Rattle.net_names.specs.Places.{HasPlaces, bound_place}
use Rattle.net_names.proofs.bindings.Bindings.new.Given as goal

abbrev pub invariant-loop-i : goal.invariant-loop-i
invariant-loop-i l = HasPlaces l.table l.i (bound_place (drop l.i (map binding_of l.bindings))) (bound_place (map binding_of l.bindings))
