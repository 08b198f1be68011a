use Rattle.std.proofs.Common.{◌≡◌, ◌++◌, drop}
use Rattle.net_model.specs.Nets.{driver_nets}
use Rattle.net_model.proofs.named.named_by_bus.Given as goal

abbrev pub invariant-loop-driver : goal.invariant-loop-driver
invariant-loop-driver l = l.named ++ driver_nets (drop l.driver-index l.drivers) ≡ driver_nets l.drivers
