use Rattle.std.proofs.Common.{map, drop}
use Rattle.net_model.specs.Written.{binding_of}
use Rattle.net_elab.proofs.Scans.{Wired}
use Rattle.net_elab.proofs.numbers.port_wires.Given as goal

abbrev pub invariant-loop-port : goal.invariant-loop-port
invariant-loop-port l = Wired l.fn.start l.fn.wire (map binding_of l.links) l.ports (drop l.port-index l.ports) l.input l.output l.wires
