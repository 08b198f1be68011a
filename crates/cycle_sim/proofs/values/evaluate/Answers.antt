use Rattle.std.proofs.lemmas.Grind.{elements}
use Rattle.std.proofs.Common.{◌≡◌, slice_index, length, arith, length-set, get_or}
use mathlib.Core.Path.{fun_ext}
use Rattle.net_model.specs.Order.{IsOrder}
use Rattle.net_model.proofs.Orders.{all_done}
use Rattle.net_model.proofs.Orders.{turn_done, turn_fits}
use Rattle.cycle_sim.proofs.values.evaluate.Goals as goal

pub loop-id-preserved : goal.loop-id-preserved
loop-id-preserved c =
    let o : IsOrder c.args.checked.now.netlist c.as_slice-order.result.now = rw (c.as_slice-order.ensures, c.order.ensures.value) c.order.ensures.kept.ordered in
    let is : c.index-nets-at.result ≡ get_or c.args.checked.now.netlist.nets (slice_index c.as_slice-order.result.now c.loop-id.id-index) c.index-nets-at.result = rw (c.as_slice-nets.ensures, c.netlist-netlist.ensures.value) at c.index-nets-at.is in
    let long : length c.loop-id.values ≡ length c.args.checked.now.netlist.nets = c.loop-id.invariant.long in
    let e : c.gate_of-value.result ≡ _ = rw (c.netlist-netlist.ensures.value, c.as_slice-current.ensures) at c.gate_of-value.ensures in
    record {
      long = rw c.set.ensures (simp length-set long);
      fit = rw c.set.ensures (turn_fits _ _ _ _ o _ _ c.loop-id-test.true long _ is _ e c.netlist-netlist.ensures.sound.typed c.requires.state c.requires.word c.loop-id.invariant.done c.loop-id.invariant.fit);
      done = rw c.set.ensures (turn_done _ _ _ _ o _ _ c.loop-id-test.true long _ is _ e c.loop-id.invariant.done);
    }

pub returns-clause-values : goal.returns-clause-values
returns-clause-values c =
    let o : IsOrder c.args.checked.now.netlist c.as_slice-order.result.now = rw (c.as_slice-order.ensures, c.order.ensures.value) c.order.ensures.kept.ordered in
    fun_ext (all_done _ _ _ _ o c.loop-id.values c.loop-id.invariant.long (λ m h. c.loop-id.invariant.done m (omega (arith, h, c.loop-id-test.false))))

pub gate_of-value-requires-clause-low : goal.gate_of-value-requires-clause-low
gate_of-value-requires-clause-low c = grind (arith, elements)

pub gate_of-value-requires-clause-high : goal.gate_of-value-requires-clause-high
gate_of-value-requires-clause-high c = grind (arith, elements)

pub gate_of-value-requires-clause-gate : goal.gate_of-value-requires-clause-gate
gate_of-value-requires-clause-gate c = grind (arith, elements)
