use Rattle.std.proofs.Common.{◌≡◌, ◌++◌, drop, map}
use Rattle.net_model.specs.Fixed.{fixed_net}
use Rattle.net_check.proofs.fixing.fixed_nets.Given as goal

abbrev pub invariant-loop-net : goal.invariant-loop-net
invariant-loop-net l = l.made ++ map (fixed_net l.mode l.value) (drop l.net-index l.nets) ≡ map (fixed_net l.mode l.value) l.nets
