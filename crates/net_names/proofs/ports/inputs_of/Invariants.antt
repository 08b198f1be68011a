use Rattle.std.proofs.Common.{◌≡◌, ◌++◌, drop, map}
use Rattle.net_names.specs.Places.{inputs_of, lent}
use Rattle.net_names.proofs.ports.inputs_of.Given as goal

abbrev pub invariant-loop-port : goal.invariant-loop-port
invariant-loop-port l = map lent l.inputs ++ inputs_of (drop l.port-index l.ports) ≡ inputs_of l.ports
