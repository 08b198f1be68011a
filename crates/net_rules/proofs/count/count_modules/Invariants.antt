use Rattle.std.proofs.Common.{◌≡◌, map, take}
use Rattle.net_rules.specs.Inner.Counts.{capped_module}
use Rattle.net_rules.proofs.count.count_modules.Given as goal

abbrev pub invariant-loop-unit : goal.invariant-loop-unit
invariant-loop-unit l = l.counts ≡ map capped_module (take l.unit-index l.units)
