use Rattle.std.proofs.Common.{map, drop}
use Rattle.net_model.specs.Written.{driver_of}
use Rattle.net_model.specs.Numbering.{count_drivers}
use Rattle.net_rules.specs.Inner.Counts.{Counted}
use Rattle.net_rules.proofs.count.count_drivers.Given as goal

abbrev pub invariant-loop-driver : goal.invariant-loop-driver
invariant-loop-driver l = Counted l.total (count_drivers (map driver_of (drop l.driver-index l.drivers))) (count_drivers (map driver_of l.drivers))
