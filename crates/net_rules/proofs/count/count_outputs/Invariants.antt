use Rattle.std.proofs.Common.{drop}
use Rattle.net_model.specs.Numbering.{count_outputs}
use Rattle.net_rules.specs.Inner.Counts.{Counted}
use Rattle.net_rules.proofs.count.count_outputs.Given as goal

abbrev pub invariant-loop-port : goal.invariant-loop-port
invariant-loop-port l = Counted l.total (count_outputs (drop l.port-index l.ports)) (count_outputs l.ports)
