use Rattle.std.proofs.Common.{◌≡◌, ◌<◌, ap, arith, get_or, length}
use Rattle.net_model.specs.declared.hardware.Netlist.{Netlist}
use Rattle.fault_sim.proofs.Listing.{width_is}
use Rattle.fault_sim.proofs.report.findings.Goals as goal

pub overflow_cast-place : goal.overflow_cast-place
overflow_cast-place c = omega (arith, c.netlist.ensures.few, ap length c.as_slice-nets.ensures, c.loop-place-test.true)

pub test_net-requires-clause-width : goal.test_net-requires-clause-width
test_net-requires-clause-width c =
    let is : c.index-nets-place.result ≡ get_or c.args.sim.now.netlist.nets c.loop-place.place c.index-nets-place.result = rw (c.as_slice-nets.ensures, c.netlist.ensures.value) at c.index-nets-place.is in
    let lt : c.loop-place.place < length c.args.sim.now.netlist.nets = omega (arith, c.loop-place-test.true, ap length c.as_slice-nets.ensures, ap (λ (n : Netlist). length n.nets) c.netlist.ensures.value) in
    rw c.loop-place.invariant.netlist (width_is c.args.sim.now.netlist c.loop-place.place c.index-nets-place.result lt is)
