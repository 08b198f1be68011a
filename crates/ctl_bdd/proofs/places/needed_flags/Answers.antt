use Rattle.std.proofs.lemmas.Result.{IfOk-from_err}
use Rattle.std.proofs.Common.{◌≡◌, ℕ, ◌+◌, ◌-◌, ◌<◌, ◌∙◌, ◌&&◌, ◌||◌, Some, nat_eq, true, ap, sym, refl, arith, length, get_or, slice_get, slice_index}
use Rattle.std.specs.List.{AllByRecursion, list_any}
use Rattle.std.proofs.lemmas.Option.{slice_get_read}
use Rattle.net_model.specs.Nets.{gate_nets}
use Rattle.net_model.specs.CheckedRules.{is_control}
use Rattle.net_model.specs.Depends.{named_by}
use Rattle.net_model.specs.Order.{IsOrder}
use Rattle.net_model.specs.Flags.{flag_at}
use Rattle.ctl_bdd.proofs.Alls.{fact_of}
use Rattle.ctl_bdd.proofs.Walks.{named_inside}
use Rattle.ctl_bdd.proofs.Needed.{kept, control_kept, closed_kept}
use Rattle.ctl_bdd.proofs.places.needed_flags.Goals as goal

pub loop-left-init : goal.loop-left-init
loop-left-init c =
    let items : c.as_slice-order.result.now ≡ c.args.checked.now.order = c.as_slice-order.ensures ∙ c.order.ensures.value in
    let o : IsOrder c.args.checked.now.netlist c.args.checked.now.order = c.order.ensures.kept.ordered in
    let nets : length c.as_slice-nets.result.now ≡ length c.args.checked.now.netlist.nets = rw (c.as_slice-nets.ensures, c.netlist.ensures.value) refl in
    let flags : (n : ℕ) → n < length c.args.checked.now.netlist.nets → flag_at c.in_ok-flags.flags n ≡ list_any (nat_eq n) c.args.those.now = λ n h. c.in_ok-flags.ensures.flags n (omega (arith, h, nets)) in
    record {
      below = omega (arith, ap length items);
      long = c.in_ok-flags.ensures.long ∙ nets;
      those = λ n e. flags n (fact_of (λ m. m < length c.args.checked.now.netlist.nets) c.args.those.now n c.requires.inside e) ∙ e;
      control = λ n h e. fact_of (λ m. is_control c.args.checked.now.netlist m ≡ true) c.args.those.now n c.requires.control (sym (flags n h) ∙ e);
      closed = λ n h le e. absurd (omega (arith, le, o.places n h, ap length items));
    }

pub set_named-requires : goal.set_named-requires
set_named-requires c =
    let items : c.as_slice-order.result.now ≡ c.args.checked.now.order = c.as_slice-order.ensures ∙ c.order.ensures.value in
    let o : IsOrder c.args.checked.now.netlist c.args.checked.now.order = c.order.ensures.kept.ordered in
    let lt : c.loop-left.left - 1 < length c.args.checked.now.order = omega (arith, c.loop-left-test.true, c.loop-left.invariant.below) in
    let is : c.index-nets-net.result ≡ get_or c.args.checked.now.netlist.nets (slice_index c.args.checked.now.order (c.loop-left.left - 1)) c.index-nets-net.result = rw (c.as_slice-nets.ensures, c.netlist.ensures.value, items) at c.index-nets-net.is in
    let there : slice_get c.args.checked.now.netlist.nets (slice_index c.args.checked.now.order (c.loop-left.left - 1)) ≡ Some c.index-nets-net.result = slice_get_read c.args.checked.now.netlist.nets (length c.args.checked.now.netlist.nets) _ c.index-nets-net.result refl (o.nets (c.loop-left.left - 1) lt) is in
    let inside : AllByRecursion (λ m. m < length c.args.checked.now.netlist.nets) (named_by c.args.checked.now.netlist (slice_index c.args.checked.now.order (c.loop-left.left - 1))) = named_inside c.args.checked.now.netlist c.args.checked.now.order o _ (o.nets (c.loop-left.left - 1) lt) in
    let all : AllByRecursion (λ m. m < length c.args.checked.now.netlist.nets) (gate_nets c.index-nets-net.result.gate) = rw there at inside in
    rw (← c.index-nets-net.is, c.loop-left.invariant.long) all

pub loop-left-preserved : goal.loop-left-preserved
loop-left-preserved c =
    let items : c.as_slice-order.result.now ≡ c.args.checked.now.order = c.as_slice-order.ensures ∙ c.order.ensures.value in
    let o : IsOrder c.args.checked.now.netlist c.args.checked.now.order = c.order.ensures.kept.ordered in
    let lt : c.loop-left.left - 1 < length c.args.checked.now.order = omega (arith, c.loop-left-test.true, c.loop-left.invariant.below) in
    let is : c.index-nets-net.result ≡ get_or c.args.checked.now.netlist.nets (slice_index c.args.checked.now.order (c.loop-left.left - 1)) c.index-nets-net.result = rw (c.as_slice-nets.ensures, c.netlist.ensures.value, items) at c.index-nets-net.is in
    let there : slice_get c.args.checked.now.netlist.nets (slice_index c.args.checked.now.order (c.loop-left.left - 1)) ≡ Some c.index-nets-net.result = slice_get_read c.args.checked.now.netlist.nets (length c.args.checked.now.netlist.nets) _ c.index-nets-net.result refl (o.nets (c.loop-left.left - 1) lt) is in
    let flags : (n : ℕ) → flag_at c.set_named.new.flags n ≡ (flag_at c.loop-left.flags n || (flag_at c.loop-left.flags (slice_index c.args.checked.now.order (c.loop-left.left - 1)) && list_any (nat_eq n) (named_by c.args.checked.now.netlist (slice_index c.args.checked.now.order (c.loop-left.left - 1))))) =
    λ n. rw there (rw (← c.index-nets-net.is, items) at c.in_ok-set_named.ensures.flags n) in
    let more : c.loop-left.left - 1 + 1 ≡ c.loop-left.left = omega (arith, c.loop-left-test.true) in
    record {
      below = omega (arith, c.loop-left.invariant.below);
      long = c.set_named.ensures.long ∙ c.loop-left.invariant.long;
      those = λ n e. kept c.args.checked.now.netlist c.args.checked.now.order o c.loop-left.flags c.set_named.new.flags (c.loop-left.left - 1) lt flags n (c.loop-left.invariant.those n e);
      control = control_kept c.args.checked.now.netlist c.args.checked.now.order o c.loop-left.flags c.set_named.new.flags (c.loop-left.left - 1) lt flags c.loop-left.invariant.control;
      closed = closed_kept c.args.checked.now.netlist c.args.checked.now.order o c.loop-left.flags c.set_named.new.flags (c.loop-left.left - 1) lt flags (λ n h le e. c.loop-left.invariant.closed n h (omega (arith, le, more)) e);
    }

pub returns-clause-closed : goal.returns-clause-closed
returns-clause-closed c = record {
  long = c.loop-left.invariant.long;
  control = c.loop-left.invariant.control;
  closed = λ n h e. c.loop-left.invariant.closed n h (omega (arith, c.loop-left-test.false)) e;
}

pub returns-in_err-flags-clause-closed : goal.returns-in_err-flags-clause-closed
returns-in_err-flags-clause-closed c = IfOk-from_err c.from_residual.result _ c.from_residual.ensures.0

pub returns-in_err-flags-clause-those : goal.returns-in_err-flags-clause-those
returns-in_err-flags-clause-those c = IfOk-from_err c.from_residual.result _ c.from_residual.ensures.0

pub returns-in_err-set_named-clause-closed : goal.returns-in_err-set_named-clause-closed
returns-in_err-set_named-clause-closed c = IfOk-from_err c.from_residual-in_err-set_named.result _ c.from_residual-in_err-set_named.ensures.0

pub returns-in_err-set_named-clause-those : goal.returns-in_err-set_named-clause-those
returns-in_err-set_named-clause-those c = IfOk-from_err c.from_residual-in_err-set_named.result _ c.from_residual-in_err-set_named.ensures.0
