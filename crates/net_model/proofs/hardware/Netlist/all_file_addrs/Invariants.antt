use Rattle.std.proofs.Common.{◌≡◌, ◌++◌, drop}
use Rattle.net_model.specs.declared.hardware.Net.{Net}
use Rattle.net_model.specs.CheckedRules.{all_file_addrs, gate_file_addrs}
use Rattle.rec_bits.specs.Faults.{gather}
use Rattle.net_model.proofs.hardware.Netlist.all_file_addrs.Given as goal

abbrev pub invariant-loop-net : goal.invariant-loop-net
invariant-loop-net l = l.nets ++ gather (λ (net : Net). gate_file_addrs l.self net.gate) (drop l.net-index l.self.nets) ≡ all_file_addrs l.self
