use Rattle.std.proofs.lemmas.Result.{IfOk-from_err}
use Rattle.std.proofs.Common.{◌≡◌, ◌<◌, ◌∙◌, Some, true, false, ap, sym, refl, arith, length, length-set, get_or, slice_get, slice_index}
use Rattle.std.specs.List.{AllByRecursion}
use Rattle.std.proofs.lemmas.Option.{slice_get_read}
use Rattle.net_model.specs.Nets.{gate_nets, width_at}
use Rattle.net_model.specs.Order.{IsOrder}
use Rattle.net_model.specs.Widths.{NetFits}
use Rattle.bit_bdd.proofs.CallerLemmas.{extends_trans}
use Rattle.net_model.specs.Flags.{flag_at}
use Rattle.ctl_bdd.specs.Tables.{AreGateBits, sets_at}
use Rattle.ctl_bdd.proofs.Filling.{skipped, named_long, gate_control, net_fits, filled, table_later, table_set}
use Rattle.ctl_bdd.proofs.table.table_of.Goals as goal

pub bounds-nets-at : goal.bounds-nets-at
bounds-nets-at c =
    let items : c.as_slice-id-items.result.now ≡ c.args.checked.now.order = c.as_slice-id-items.ensures ∙ c.order.ensures.value in
    let o : IsOrder c.args.checked.now.netlist c.args.checked.now.order = c.order.ensures.kept.ordered in
    let lt : c.loop-id.id-index < length c.args.checked.now.order = rw items at c.loop-id-test.true in
    rw (items, c.as_slice-nets.ensures, c.netlist-netlist.ensures.value) (o.nets c.loop-id.id-index lt)

pub set-requires : goal.set-requires
set-requires c =
    let items : c.as_slice-id-items.result.now ≡ c.args.checked.now.order = c.as_slice-id-items.ensures ∙ c.order.ensures.value in
    let o : IsOrder c.args.checked.now.netlist c.args.checked.now.order = c.order.ensures.kept.ordered in
    let lt : c.loop-id.id-index < length c.args.checked.now.order = rw items at c.loop-id-test.true in
    rw (items, c.loop-id.invariant.long) (o.nets c.loop-id.id-index lt)

pub gate_bits-requires-clause-typed : goal.gate_bits-requires-clause-typed
gate_bits-requires-clause-typed c = rw c.netlist-netlist.ensures.value c.netlist-netlist.ensures.sound.typed

pub gate_bits-requires-clause-code : goal.gate_bits-requires-clause-code
gate_bits-requires-clause-code c = rw c.netlist-netlist.ensures.value c.netlist-netlist.ensures.kept.roles.code

pub gate_bits-requires-clause-word : goal.gate_bits-requires-clause-word
gate_bits-requires-clause-word c = rw c.netlist-netlist.ensures.value (c.loop-id.invariant.grows.bits ∙ c.requires.word)

pub gate_bits-requires-clause-table : goal.gate_bits-requires-clause-table
gate_bits-requires-clause-table c = rw c.as_slice.ensures c.loop-id.invariant.table

pub returns-in_err-bits-clause-grows : goal.returns-in_err-bits-clause-grows
returns-in_err-bits-clause-grows c = extends_trans c.args.book.now c.loop-id.book c.gate_bits.new.book c.loop-id.invariant.grows c.in_err-bits.ensures.grows

pub loop-id-preserved-then-not-is_set : goal.loop-id-preserved-then-not-is_set
loop-id-preserved-then-not-is_set c =
    let items : c.as_slice-id-items.result.now ≡ c.args.checked.now.order = c.as_slice-id-items.ensures ∙ c.order.ensures.value in
    let o : IsOrder c.args.checked.now.netlist c.args.checked.now.order = c.order.ensures.kept.ordered in
    let lt : c.loop-id.id-index < length c.args.checked.now.order = rw items at c.loop-id-test.true in
    let flag : flag_at c.args.needed.now (slice_index c.args.checked.now.order c.loop-id.id-index) ≡ false = rw items at (sym c.is_set.ensures ∙ c.if-not-is_set.true) in
    record {
      long = c.loop-id.invariant.long;
      grows = c.loop-id.invariant.grows;
      table = c.loop-id.invariant.table;
      done = skipped c.args.checked.now.netlist c.args.checked.now.order o c.args.needed.now c.requires.closed c.loop-id.book c.loop-id.table c.loop-id.id-index lt c.loop-id.invariant.done flag;
    }

pub gate_bits-requires-clause-low : goal.gate_bits-requires-clause-low
gate_bits-requires-clause-low c =
    let items : c.as_slice-id-items.result.now ≡ c.args.checked.now.order = c.as_slice-id-items.ensures ∙ c.order.ensures.value in
    let o : IsOrder c.args.checked.now.netlist c.args.checked.now.order = c.order.ensures.kept.ordered in
    let lt : c.loop-id.id-index < length c.args.checked.now.order = rw items at c.loop-id-test.true in
    let is : c.index-nets-at.result ≡ get_or c.args.checked.now.netlist.nets (slice_index c.args.checked.now.order c.loop-id.id-index) c.index-nets-at.result = rw (c.as_slice-nets.ensures, c.netlist-netlist.ensures.value, items) at c.index-nets-at.is in
    let there : slice_get c.args.checked.now.netlist.nets (slice_index c.args.checked.now.order c.loop-id.id-index) ≡ Some c.index-nets-at.result = slice_get_read c.args.checked.now.netlist.nets (length c.args.checked.now.netlist.nets) _ c.index-nets-at.result refl (o.nets c.loop-id.id-index lt) is in
    let flag : flag_at c.args.needed.now (slice_index c.args.checked.now.order c.loop-id.id-index) ≡ true = rw items at (sym c.is_set.ensures ∙ c.if-not-is_set.false) in
    let fits : NetFits c.args.checked.now.netlist (Some c.index-nets-at.result) = net_fits c.args.checked.now.netlist c.args.checked.now.order o c.args.needed.now c.requires.closed c.loop-id.book c.loop-id.table c.loop-id.id-index lt c.loop-id.invariant.done flag c.index-nets-at.result there c.netlist-netlist.ensures.sound.typed in
    fits.0

pub gate_bits-requires-clause-high : goal.gate_bits-requires-clause-high
gate_bits-requires-clause-high c =
    let items : c.as_slice-id-items.result.now ≡ c.args.checked.now.order = c.as_slice-id-items.ensures ∙ c.order.ensures.value in
    let o : IsOrder c.args.checked.now.netlist c.args.checked.now.order = c.order.ensures.kept.ordered in
    let lt : c.loop-id.id-index < length c.args.checked.now.order = rw items at c.loop-id-test.true in
    let is : c.index-nets-at.result ≡ get_or c.args.checked.now.netlist.nets (slice_index c.args.checked.now.order c.loop-id.id-index) c.index-nets-at.result = rw (c.as_slice-nets.ensures, c.netlist-netlist.ensures.value, items) at c.index-nets-at.is in
    let there : slice_get c.args.checked.now.netlist.nets (slice_index c.args.checked.now.order c.loop-id.id-index) ≡ Some c.index-nets-at.result = slice_get_read c.args.checked.now.netlist.nets (length c.args.checked.now.netlist.nets) _ c.index-nets-at.result refl (o.nets c.loop-id.id-index lt) is in
    let flag : flag_at c.args.needed.now (slice_index c.args.checked.now.order c.loop-id.id-index) ≡ true = rw items at (sym c.is_set.ensures ∙ c.if-not-is_set.false) in
    let fits : NetFits c.args.checked.now.netlist (Some c.index-nets-at.result) = net_fits c.args.checked.now.netlist c.args.checked.now.order o c.args.needed.now c.requires.closed c.loop-id.book c.loop-id.table c.loop-id.id-index lt c.loop-id.invariant.done flag c.index-nets-at.result there c.netlist-netlist.ensures.sound.typed in
    fits.1

pub gate_bits-requires-clause-gate : goal.gate_bits-requires-clause-gate
gate_bits-requires-clause-gate c =
    let items : c.as_slice-id-items.result.now ≡ c.args.checked.now.order = c.as_slice-id-items.ensures ∙ c.order.ensures.value in
    let o : IsOrder c.args.checked.now.netlist c.args.checked.now.order = c.order.ensures.kept.ordered in
    let lt : c.loop-id.id-index < length c.args.checked.now.order = rw items at c.loop-id-test.true in
    let is : c.index-nets-at.result ≡ get_or c.args.checked.now.netlist.nets (slice_index c.args.checked.now.order c.loop-id.id-index) c.index-nets-at.result = rw (c.as_slice-nets.ensures, c.netlist-netlist.ensures.value, items) at c.index-nets-at.is in
    let there : slice_get c.args.checked.now.netlist.nets (slice_index c.args.checked.now.order c.loop-id.id-index) ≡ Some c.index-nets-at.result = slice_get_read c.args.checked.now.netlist.nets (length c.args.checked.now.netlist.nets) _ c.index-nets-at.result refl (o.nets c.loop-id.id-index lt) is in
    let flag : flag_at c.args.needed.now (slice_index c.args.checked.now.order c.loop-id.id-index) ≡ true = rw items at (sym c.is_set.ensures ∙ c.if-not-is_set.false) in
    let fits : NetFits c.args.checked.now.netlist (Some c.index-nets-at.result) = net_fits c.args.checked.now.netlist c.args.checked.now.order o c.args.needed.now c.requires.closed c.loop-id.book c.loop-id.table c.loop-id.id-index lt c.loop-id.invariant.done flag c.index-nets-at.result there c.netlist-netlist.ensures.sound.typed in
    rw c.netlist-netlist.ensures.value fits.2

pub gate_bits-requires-clause-control : goal.gate_bits-requires-clause-control
gate_bits-requires-clause-control c =
    let items : c.as_slice-id-items.result.now ≡ c.args.checked.now.order = c.as_slice-id-items.ensures ∙ c.order.ensures.value in
    let o : IsOrder c.args.checked.now.netlist c.args.checked.now.order = c.order.ensures.kept.ordered in
    let lt : c.loop-id.id-index < length c.args.checked.now.order = rw items at c.loop-id-test.true in
    let is : c.index-nets-at.result ≡ get_or c.args.checked.now.netlist.nets (slice_index c.args.checked.now.order c.loop-id.id-index) c.index-nets-at.result = rw (c.as_slice-nets.ensures, c.netlist-netlist.ensures.value, items) at c.index-nets-at.is in
    let there : slice_get c.args.checked.now.netlist.nets (slice_index c.args.checked.now.order c.loop-id.id-index) ≡ Some c.index-nets-at.result = slice_get_read c.args.checked.now.netlist.nets (length c.args.checked.now.netlist.nets) _ c.index-nets-at.result refl (o.nets c.loop-id.id-index lt) is in
    let flag : flag_at c.args.needed.now (slice_index c.args.checked.now.order c.loop-id.id-index) ≡ true = rw items at (sym c.is_set.ensures ∙ c.if-not-is_set.false) in
    gate_control c.args.checked.now.netlist c.args.checked.now.order o c.args.needed.now c.requires.closed c.loop-id.book c.loop-id.table c.loop-id.id-index lt c.loop-id.invariant.done flag c.index-nets-at.result there

pub gate_bits-requires-clause-named : goal.gate_bits-requires-clause-named
gate_bits-requires-clause-named c =
    let items : c.as_slice-id-items.result.now ≡ c.args.checked.now.order = c.as_slice-id-items.ensures ∙ c.order.ensures.value in
    let o : IsOrder c.args.checked.now.netlist c.args.checked.now.order = c.order.ensures.kept.ordered in
    let lt : c.loop-id.id-index < length c.args.checked.now.order = rw items at c.loop-id-test.true in
    let is : c.index-nets-at.result ≡ get_or c.args.checked.now.netlist.nets (slice_index c.args.checked.now.order c.loop-id.id-index) c.index-nets-at.result = rw (c.as_slice-nets.ensures, c.netlist-netlist.ensures.value, items) at c.index-nets-at.is in
    let there : slice_get c.args.checked.now.netlist.nets (slice_index c.args.checked.now.order c.loop-id.id-index) ≡ Some c.index-nets-at.result = slice_get_read c.args.checked.now.netlist.nets (length c.args.checked.now.netlist.nets) _ c.index-nets-at.result refl (o.nets c.loop-id.id-index lt) is in
    let flag : flag_at c.args.needed.now (slice_index c.args.checked.now.order c.loop-id.id-index) ≡ true = rw items at (sym c.is_set.ensures ∙ c.if-not-is_set.false) in
    let long : AllByRecursion (λ n. length (sets_at c.loop-id.table n) ≡ width_at c.args.checked.now.netlist n) (gate_nets c.index-nets-at.result.gate) = named_long c.args.checked.now.netlist c.args.checked.now.order o c.args.needed.now c.requires.closed c.loop-id.book c.loop-id.table c.loop-id.id-index lt c.loop-id.invariant.done flag c.index-nets-at.result there in
    rw (c.as_slice.ensures, c.netlist-netlist.ensures.value) long

pub loop-id-preserved : goal.loop-id-preserved
loop-id-preserved c =
    let items : c.as_slice-id-items.result.now ≡ c.args.checked.now.order = c.as_slice-id-items.ensures ∙ c.order.ensures.value in
    let o : IsOrder c.args.checked.now.netlist c.args.checked.now.order = c.order.ensures.kept.ordered in
    let lt : c.loop-id.id-index < length c.args.checked.now.order = rw items at c.loop-id-test.true in
    let is : c.index-nets-at.result ≡ get_or c.args.checked.now.netlist.nets (slice_index c.args.checked.now.order c.loop-id.id-index) c.index-nets-at.result = rw (c.as_slice-nets.ensures, c.netlist-netlist.ensures.value, items) at c.index-nets-at.is in
    let there : slice_get c.args.checked.now.netlist.nets (slice_index c.args.checked.now.order c.loop-id.id-index) ≡ Some c.index-nets-at.result = slice_get_read c.args.checked.now.netlist.nets (length c.args.checked.now.netlist.nets) _ c.index-nets-at.result refl (o.nets c.loop-id.id-index lt) is in
    let flag : flag_at c.args.needed.now (slice_index c.args.checked.now.order c.loop-id.id-index) ≡ true = rw items at (sym c.is_set.ensures ∙ c.if-not-is_set.false) in
    let bits : AreGateBits c.args.checked.now.netlist c.loop-id.book c.gate_bits.new.book c.loop-id.table c.index-nets-at.result.width c.index-nets-at.result.gate c.in_ok-bits.bits = rw (c.as_slice.ensures, c.netlist-netlist.ensures.value) at c.in_ok-bits.ensures.bits in
    let inside : slice_index c.args.checked.now.order c.loop-id.id-index < length c.loop-id.table = omega (arith, o.nets c.loop-id.id-index lt, c.loop-id.invariant.long) in
    record {
      long = rw c.set.ensures (simp length-set c.loop-id.invariant.long);
      grows = extends_trans c.args.book.now c.loop-id.book c.gate_bits.new.book c.loop-id.invariant.grows c.in_ok-bits.ensures.grows;
      table = rw (c.set.ensures, items) (table_set c.gate_bits.new.book c.loop-id.table _ c.in_ok-bits.bits inside (table_later c.loop-id.book c.gate_bits.new.book c.in_ok-bits.ensures.grows c.loop-id.table c.loop-id.invariant.table) bits.sets);
      done = rw (c.set.ensures, items) (filled c.args.checked.now.netlist c.args.checked.now.order o c.args.needed.now c.requires.closed c.loop-id.book c.loop-id.table c.loop-id.id-index lt c.loop-id.invariant.done flag c.index-nets-at.result there c.loop-id.invariant.table c.loop-id.invariant.long c.gate_bits.new.book c.in_ok-bits.bits c.in_ok-bits.ensures.grows bits);
    }

pub returns-clause-bits : goal.returns-clause-bits
returns-clause-bits c n h e =
    let items : c.as_slice-id-items.result.now ≡ c.args.checked.now.order = c.as_slice-id-items.ensures ∙ c.order.ensures.value in
    let o : IsOrder c.args.checked.now.netlist c.args.checked.now.order = c.order.ensures.kept.ordered in
    c.loop-id.invariant.done n (omega (arith, o.places n h, c.loop-id-test.false, ap length items)) e

pub returns-in_err-bits-clause-table : goal.returns-in_err-bits-clause-table
returns-in_err-bits-clause-table c = IfOk-from_err c.from_residual-in_err-bits.result _ c.from_residual-in_err-bits.ensures.0

pub returns-in_err-bits-clause-bits : goal.returns-in_err-bits-clause-bits
returns-in_err-bits-clause-bits c = IfOk-from_err c.from_residual-in_err-bits.result _ c.from_residual-in_err-bits.ensures.0

pub returns-in_err-table-clause-table : goal.returns-in_err-table-clause-table
returns-in_err-table-clause-table c = IfOk-from_err c.from_residual.result _ c.from_residual.ensures.0

pub returns-in_err-table-clause-bits : goal.returns-in_err-table-clause-bits
returns-in_err-table-clause-bits c = IfOk-from_err c.from_residual.result _ c.from_residual.ensures.0
