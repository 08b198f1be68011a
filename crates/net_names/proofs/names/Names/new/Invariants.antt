use Rattle.std.proofs.Common.{drop, map}
use Rattle.net_model.specs.TextNames.{place_named}
use Rattle.net_model.specs.Written.{model_of_unit}
use Rattle.net_names.specs.Places.{HasPlaces}
use Rattle.net_names.proofs.names.Names.new.Given as goal

abbrev pub invariant-loop-i : goal.invariant-loop-i
invariant-loop-i l = HasPlaces l.table l.i (place_named (drop l.i (map model_of_unit l.units.items))) (place_named (map model_of_unit l.units.items))
