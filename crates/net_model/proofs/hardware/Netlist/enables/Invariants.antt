use Rattle.std.proofs.Common.{◌≡◌, ◌++◌, drop}
use Rattle.net_model.specs.declared.hardware.Net.{Net}
use Rattle.rec_bits.specs.Faults.{gather}
use Rattle.net_model.specs.Control.{enables, gate_enables}
use Rattle.net_model.proofs.hardware.Netlist.enables.Given as goal

abbrev pub invariant-loop-net : goal.invariant-loop-net
invariant-loop-net l = l.nets ++ gather (λ (net : Net). gate_enables net.gate) (drop l.net-index l.self.nets) ≡ enables l.self
