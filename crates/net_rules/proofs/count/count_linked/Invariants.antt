use Rattle.std.proofs.Common.{map, drop}
use Rattle.net_model.specs.Written.{binding_of}
use Rattle.net_names.specs.Places.{lent}
use Rattle.net_rules.specs.Inner.Counts.{Counted, count_linked}
use Rattle.net_rules.proofs.count.count_linked.Given as goal

abbrev pub invariant-loop-input : goal.invariant-loop-input
invariant-loop-input l =
    Counted l.total (count_linked (map binding_of l.links) (map lent (drop l.input-index l.inputs))) (count_linked (map binding_of l.links) (map lent l.inputs))
