use Rattle.std.proofs.Common.{map, drop}
use Rattle.net_model.specs.Written.{binding_of}
use Rattle.net_model.specs.Numbering.{count_equations}
use Rattle.net_rules.specs.Inner.Counts.{Counted}
use Rattle.net_rules.proofs.count.count_equations.Given as goal

abbrev pub invariant-loop-port : goal.invariant-loop-port
invariant-loop-port l = Counted l.total (count_equations (map binding_of l.equations) (drop l.port-index l.ports)) (count_equations (map binding_of l.equations) l.ports)
