use Rattle.std.proofs.Common.{◌≡◌, ◌≤◌, ◌++◌, drop, map}
use Rattle.net_model.specs.Elaborated.{modes_from}
use Rattle.net_model.specs.Written.{model_of_unit}
use Rattle.net_elab.proofs.modes.modes.Given as goal

-- what is found before the units that are left, and the rest of all modes
abbrev pub invariant-loop-unit : goal.invariant-loop-unit
invariant-loop-unit l =
    (l.modes ++ modes_from l.storage (map model_of_unit (drop l.unit-index l.units)) ≡ modes_from 0 (map model_of_unit l.units))
    × (l.storage ≤ l.unit-index)
