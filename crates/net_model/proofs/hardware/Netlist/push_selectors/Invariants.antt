use Rattle.std.proofs.Common.{◌≡◌, ◌++◌, drop}
use Rattle.net_model.specs.declared.hardware.Net.{Net}
use Rattle.rec_bits.specs.Faults.{gather}
use Rattle.net_model.specs.Control.{gate_selectors, selectors}
use Rattle.net_model.proofs.hardware.Netlist.push_selectors.Given as goal

abbrev pub invariant-loop-net : goal.invariant-loop-net
invariant-loop-net l = l.nets ++ gather (λ (net : Net). gate_selectors net.gate) (drop l.net-index l.self.nets) ≡ l.fn.nets ++ selectors l.self
