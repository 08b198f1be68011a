use Rattle.std.proofs.Common.{◌≡◌, ◌++◌, map, drop}
use Rattle.net_model.specs.declared.hardware.Net.{Net}
use Rattle.net_model.specs.Nets.{gate_nets}
use Rattle.net_check.proofs.graph.graph_of.Given as goal

abbrev pub invariant-loop-net : goal.invariant-loop-net
invariant-loop-net l =
    l.graph ++ map (λ (net : Net). gate_nets net.gate) (drop l.net-index l.nets) ≡ map (λ (net : Net). gate_nets net.gate) l.nets
