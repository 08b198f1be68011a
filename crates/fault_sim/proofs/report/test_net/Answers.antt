use Rattle.std.proofs.Common.{◌≡◌, ◌∙◌, ◌++◌}
use Rattle.fault_sim.specs.Reports.{bit_faults, told}
use Rattle.fault_sim.proofs.Listing.{bit_added}
use Rattle.fault_sim.proofs.report.test_net.Goals as goal

pub loop-bit-preserved : goal.loop-bit-preserved
loop-bit-preserved c =
    let first = c.args.sim.now in
    let e : c.test_bit.new.found ≡ c.loop-bit.found ++ told first.netlist first.words c.args.start.now c.args.good.now (bit_faults c.args.net c.loop-bit.bit 1) = rw (c.loop-bit.invariant.netlist, c.loop-bit.invariant.words) at c.in_ok-test_bit.ensures.found in
    record {
      netlist = c.test_bit.ensures.netlist ∙ c.loop-bit.invariant.netlist;
      words = c.test_bit.ensures.words ∙ c.loop-bit.invariant.words;
      left = bit_added first.netlist first.words c.args.start.now c.args.good.now _ _ _ c.args.net c.loop-bit.bit c.args.width c.loop-bit-test.true e c.loop-bit.invariant.left;
    }
