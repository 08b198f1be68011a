use Rattle.std.proofs.Common.{◌≡◌, length, length-set, get_or, slice_index}
use Rattle.net_model.specs.Order.{IsOrder}
use Rattle.net_model.specs.Symbolic.{gate_expr}
use Rattle.sym_expr.specs.Pools.{expr_of_id}
use Rattle.sym_expr.proofs.CallerLemmas.{grows_trans}
use Rattle.word_moves.specs.Inner.Gates.{net_exprs}
use Rattle.net_model.specs.Flags.{flag_at}
use Rattle.word_moves.proofs.Traced.{turn_controlled, turn_known, turn_traced}
use Rattle.word_moves.proofs.trace.ids_of.Goals as goal

pub gate_id-requires-clause-known : goal.gate_id-requires-clause-known
gate_id-requires-clause-known c =
    let o : IsOrder c.args.checked.now.netlist c.as_slice-order.result.now = rw (c.as_slice-order.ensures, c.order.ensures.value) c.order.ensures.kept.ordered in
    let is : c.index-nets-place.result ≡ get_or c.args.checked.now.netlist.nets (slice_index c.as_slice-order.result.now c.loop-id.id-index) c.index-nets-place.result = rw (c.as_slice-nets.ensures, c.netlist-netlist.ensures.value) at c.index-nets-place.is in
    rw (c.netlist-netlist.ensures.value, c.as_slice-current.ensures)
    (turn_known c.args.checked.now.netlist c.args.at.now.word c.as_slice-order.result.now o c.loop-id.pool c.loop-id.ids c.loop-id.id-index c.loop-id-test.true c.loop-id.invariant.done c.index-nets-place.result is c.netlist-netlist.ensures.sound.typed)

pub gate_id-requires-clause-control : goal.gate_id-requires-clause-control
gate_id-requires-clause-control c =
    let o : IsOrder c.args.checked.now.netlist c.as_slice-order.result.now = rw (c.as_slice-order.ensures, c.order.ensures.value) c.order.ensures.kept.ordered in
    let is : c.index-nets-place.result ≡ get_or c.args.checked.now.netlist.nets (slice_index c.as_slice-order.result.now c.loop-id.id-index) c.index-nets-place.result = rw (c.as_slice-nets.ensures, c.netlist-netlist.ensures.value) at c.index-nets-place.is in
    rw c.netlist-netlist.ensures.value
    (turn_controlled c.args.checked.now.netlist c.args.at.now.word c.as_slice-order.result.now o c.loop-id.pool c.loop-id.ids c.loop-id.id-index c.loop-id-test.true c.loop-id.invariant.done c.index-nets-place.result is c.netlist-netlist.ensures.sound.controlled)

pub loop-id-preserved : goal.loop-id-preserved
loop-id-preserved c =
    let o : IsOrder c.args.checked.now.netlist c.as_slice-order.result.now = rw (c.as_slice-order.ensures, c.order.ensures.value) c.order.ensures.kept.ordered in
    let is : c.index-nets-place.result ≡ get_or c.args.checked.now.netlist.nets (slice_index c.as_slice-order.result.now c.loop-id.id-index) c.index-nets-place.result = rw (c.as_slice-nets.ensures, c.netlist-netlist.ensures.value) at c.index-nets-place.is in
    let long : length c.loop-id.ids ≡ length c.args.checked.now.netlist.nets = c.loop-id.invariant.long in
    let expr : expr_of_id c.gate_id.new.pool c.in_ok-found.found ≡ gate_expr (net_exprs c.loop-id.pool c.loop-id.ids) (slice_index c.args.at.now.values.now) (flag_at c.args.at.now.statics.now) c.args.checked.now.netlist c.index-nets-place.result.width c.index-nets-place.result.gate = rw (c.as_slice-current.ensures, c.netlist-netlist.ensures.value) at c.in_ok-found.ensures.expr in
    record {
      grows = grows_trans _ _ _ c.loop-id.invariant.grows c.in_ok-found.ensures.grows;
      long = rw c.set.ensures (simp length-set long);
      done = rw c.set.ensures
          (turn_traced c.args.checked.now.netlist c.args.at.now.word c.as_slice-order.result.now o c.loop-id.pool c.loop-id.ids c.loop-id.id-index c.loop-id-test.true c.loop-id.invariant.done c.index-nets-place.result is
          long (slice_index c.args.at.now.values.now) (flag_at c.args.at.now.statics.now) c.requires.values c.requires.statics c.gate_id.new.pool c.in_ok-found.ensures.grows c.in_ok-found.found c.in_ok-found.ensures.within expr);
    }
