use Rattle.std.proofs.Common.{◌≡◌, ap, ◌∙◌, arith, sym}
use Rattle.net_model.specs.Clock.{Clash, Next}
use Rattle.fault_sim.specs.Faulty.{as_it_is, seen_clock}
use Rattle.fault_sim.specs.Reports.{cells_after}
use Rattle.fault_sim.proofs.Good.{good_clock, good_run}
use Rattle.fault_sim.proofs.Watching.{one_clash, one_clock}
use Rattle.test_run.proofs.good.run.Goals as goal

pub loop-preserved : goal.loop-preserved
loop-preserved c =
    let first = c.args.sim.now in
    let e : seen_clock as_it_is first.netlist first.words c.loop.sim.state ≡ Next c.clock.new.self.state = good_clock first.netlist first.words c.loop.sim.state ∙ (rw (c.loop.invariant.netlist, c.loop.invariant.words) at c.in-Stepped.ensures.clocks.0) in
    record {
      netlist = c.clock.ensures.netlist ∙ c.loop.invariant.netlist;
      words = c.clock.ensures.words ∙ c.loop.invariant.words;
      state = c.clock.ensures.state;
      left = c.loop.invariant.left ∙ one_clock as_it_is first.netlist first.words c.loop.counter c.args.clocks c.loop.sim.state c.clock.new.self.state (omega arith) e;
    }

pub returns-in-Clash-clause-cells : goal.returns-in-Clash-clause-cells
returns-in-Clash-clause-cells c =
    let first = c.args.sim.now in
    let e : seen_clock as_it_is first.netlist first.words c.loop.sim.state ≡ Clash _ = good_clock first.netlist first.words c.loop.sim.state ∙ (rw (c.loop.invariant.netlist, c.loop.invariant.words) at c.in-Clash.ensures.clocks.0) in
    ap cells_after (sym (good_run first.netlist first.words first.state c.args.clocks) ∙ c.loop.invariant.left)
    ∙ one_clash as_it_is first.netlist first.words c.loop.counter c.args.clocks c.loop.sim.state _ (omega arith) e
