use Rattle.std.proofs.Common.{map, drop}
use Rattle.net_model.specs.Written.{driver_of}
use Rattle.net_elab.specs.Inner.Sites.{model_of_site}
use Rattle.net_elab.proofs.Drivers.{Driven}
use Rattle.net_elab.proofs.item.emit_drivers.Given as goal

abbrev pub invariant-loop-driver : goal.invariant-loop-driver
invariant-loop-driver l = Driven (model_of_site l.site) l.at (map driver_of l.drivers) (map driver_of (drop l.driver-index l.drivers)) l.fn.nets l.nets l.pairs
