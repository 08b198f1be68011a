use Rattle.std.proofs.lemmas.Grind.{elements}
use Rattle.std.proofs.Common.{◌≡◌, ◌≤◌, ◌∙◌, slice_index, length, arith, ap, get_or}
use Rattle.net_model.specs.Order.{IsOrder}
use Rattle.cycle_sim.specs.Inner.Decoding.{source_in, decoded}
use Rattle.cycle_sim.specs.Inner.Programs.{added, AreSources}
use Rattle.cycle_sim.proofs.Runs.{Built, none_built, turn_built, all_built}
use Rattle.cycle_sim.proofs.program.instructions.Goals as goal

pub loop-id-init : goal.loop-id-init
loop-id-init c = rw c.new-instructions.ensures (none_built _ _)

pub loop-id-preserved : goal.loop-id-preserved
loop-id-preserved c =
    let o : IsOrder c.args.checked.now.netlist c.as_slice-order.result.now = rw (c.as_slice-order.ensures, c.order.ensures.value) c.order.ensures.kept.ordered in
    let is : c.index-nets-at.result ≡ get_or c.args.checked.now.netlist.nets (slice_index c.as_slice-order.result.now c.loop-id.id-index) c.index-nets-at.result = rw (c.as_slice-nets.ensures, c.netlist-netlist.ensures.value) at c.index-nets-at.is in
    let d : c.in_ok-operation.operation ≡ decoded c.args.checked.now.netlist (source_in c.args.sources.now) c.index-nets-at.result.width c.index-nets-at.result.gate = rw (c.netlist-netlist.ensures.value) at c.in_ok-operation.ensures in
    let e : c.add.new.instructions ≡ added (slice_index c.as_slice-order.result.now c.loop-id.id-index) c.in_ok-operation.operation c.loop-id.instructions = c.in_ok-add.ensures in
    let q : c.as_slice-order.result.now ≡ c.args.checked.now.order = c.as_slice-order.ensures ∙ c.order.ensures.value in
    let places : AreSources c.args.checked.now.netlist c.as_slice-order.result.now c.args.sources.now = rw q c.requires in
    let b : Built c.args.checked.now.netlist c.as_slice-order.result.now c.loop-id.id-index c.loop-id.instructions = rw q c.loop-id.invariant in
    rw (e, d, ← q) (turn_built _ _ o c.netlist-netlist.ensures.sound.typed _ places _ _ c.loop-id-test.true _ is b)

pub returns : goal.returns
returns c =
    let le : length c.args.checked.now.order ≤ c.loop-id.id-index = omega (arith, c.loop-id-test.false, ap length c.as_slice-order.ensures, ap length c.order.ensures.value) in
    let ge : c.loop-id.id-index ≤ length c.args.checked.now.order = omega (arith, c.loop-id.auto.id-index-end, ap length c.as_slice-order.ensures, ap length c.order.ensures.value) in
    let e : c.loop-id.id-index ≡ length c.args.checked.now.order = omega arith in
    all_built _ _ c.order.ensures.kept.ordered _ (rw e at c.loop-id.invariant)

pub decode-requires-clause-low : goal.decode-requires-clause-low
decode-requires-clause-low c = grind (arith, elements)

pub decode-requires-clause-high : goal.decode-requires-clause-high
decode-requires-clause-high c = grind (arith, elements)
