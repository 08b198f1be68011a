use Rattle.std.proofs.Common.{◌≡◌, ◌+◌, ◌*◌, ◌≤◌, drop}
use Rattle.fault_sim.specs.Reports.{bits_of}
use Rattle.test_command.proofs.testing.all_bits.Given as goal

abbrev pub invariant-loop-net : goal.invariant-loop-net
invariant-loop-net l = record {
  few : l.bits ≤ 255 * l.net-index;
  so_far : l.bits + bits_of (drop l.net-index l.nets) ≡ bits_of l.nets;
}
