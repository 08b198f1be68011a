use Rattle.std.proofs.Common.{◌≡◌, drop}
use Rattle.net_model.specs.Symbolic.{all_nets}
use Rattle.route_trace.specs.Inner.Verdicts.{kept_at}
use Rattle.route_trace.proofs.verdict.all_kept.Given as goal

abbrev pub invariant-loop-net : goal.invariant-loop-net
invariant-loop-net l = all_nets (kept_at l.verdicts) l.nets ≡ all_nets (kept_at l.verdicts) (drop l.net-index l.nets)
