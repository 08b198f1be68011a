use Rattle.std.proofs.Common.{◌≡◌, ◌∙◌, slice_index, length, arith, length-set, ap, get_or}
use Rattle.net_model.specs.Order.{IsOrder}
use Rattle.cycle_sim.specs.Inner.Decoding.{source_in, source_of}
use Rattle.cycle_sim.proofs.Runs.{sources_turn, sources_done}
use Rattle.cycle_sim.proofs.program.sources.Goals as goal

pub loop-id-preserved : goal.loop-id-preserved
loop-id-preserved c =
    let o : IsOrder c.args.checked.now.netlist c.as_slice-order.result.now = rw (c.as_slice-order.ensures, c.order.ensures.value) c.order.ensures.kept.ordered in
    let is : c.index-nets-at.result ≡ get_or c.args.checked.now.netlist.nets (slice_index c.as_slice-order.result.now c.loop-id.id-index) c.index-nets-at.result = rw (c.as_slice-nets.ensures, c.netlist-netlist.ensures.value) at c.index-nets-at.is in
    let long : length c.loop-id.sources ≡ length c.args.checked.now.netlist.nets = c.loop-id.invariant.long in
    let e : c.source_of-source.result ≡ source_of (source_in c.loop-id.sources) (slice_index c.as_slice-order.result.now c.loop-id.id-index) c.index-nets-at.result.gate = rw (c.as_slice-current.ensures, ← c.index-nets-at.is) at c.source_of-source.ensures in
    let q : c.as_slice-order.result.now ≡ c.args.checked.now.order = c.as_slice-order.ensures ∙ c.order.ensures.value in
    record {
      long = rw c.set.ensures (simp length-set long);
      done = rw (c.set.ensures, e, ← q) (sources_turn _ _ o _ _ c.loop-id-test.true long _ is (rw q c.loop-id.invariant.done));
    }

pub returns : goal.returns
returns c =
    sources_done _ _ c.order.ensures.kept.ordered _ c.loop-id.invariant.long
    (λ m h. c.loop-id.invariant.done m (omega (arith, h, c.loop-id-test.false, ap length c.as_slice-order.ensures, ap length c.order.ensures.value)))
