use Rattle.std.proofs.Common.{map, drop, []}
use Rattle.rec_bits.specs.Faults.{least}
use Rattle.net_model.specs.NameRules.{repeated, port_name}
use Rattle.net_rules.specs.Inner.Scans.{Repeating}
use Rattle.net_rules.proofs.duplicates.see_ports.Given as goal

abbrev pub invariant-loop-port : goal.invariant-loop-port
invariant-loop-port l = Repeating l.seen l.found (map port_name (drop l.port-index l.ports)) (least (repeated [] (map port_name l.ports)))
