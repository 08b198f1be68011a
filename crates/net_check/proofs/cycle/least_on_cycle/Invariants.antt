use Rattle.std.proofs.Common.{ℕ, ◌<◌}
use Rattle.net_model.specs.Depends.{Depends}
use Rattle.net_check.specs.Inner.Graphs.{named_in}
use Rattle.net_check.proofs.cycle.least_on_cycle.Given as goal

abbrev pub invariant-loop-net : goal.invariant-loop-net
invariant-loop-net l = (m : ℕ) → m < l.net → Depends (named_in l.graph) m m → ⊥
