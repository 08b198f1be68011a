use Rattle.std.proofs.Common.{◌≡◌, ◌^◌, ◌≤◌, Some, length, slice_index, sym, ap, ◌∙◌, arith}
use Rattle.std.proofs.Math.Nat.{pow-le-pow_right}
use Rattle.net_model.specs.declared.hardware.Space.TheVariants.{Memory as InMemory}
use Rattle.net_model.specs.declared.states.State.{State}
use Rattle.net_model.specs.Nets.{memory_width}
use Rattle.checkpoint_watch.specs.Texts.{store_from}
use Rattle.code_model.specs.Machine.{label_in, store_in}
use Rattle.code_model.specs.Places.{label_at}
use Rattle.checkpoint_watch.proofs.Putting.{puts_failed, puts_ok}
use Rattle.checkpoint_watch.proofs.Seeing.{line_is, told_is}
use Rattle.checkpoint_watch.proofs.Starting.{store_is}
use Rattle.checkpoint_watch.proofs.watching.look.Goals as goal

-- the simulator that holds the state has its cells
pub write-requires-clause-within : goal.write-requires-clause-within
write-requires-clause-within g c =
    let scene = c.requires.scene in
    let many = c.requires.state.cells InMemory in
    let held = ap (λ (s : State). length s.cells) c.now.ensures.state in
    omega (arith, scene.within, scene.first, many, held)

pub write-requires-clause-few : goal.write-requires-clause-few
write-requires-clause-few g c =
    let many = c.requires.state.cells InMemory in
    let held = ap (λ (s : State). length s.cells) c.now.ensures.state in
    omega (arith, c.requires.scene.few, many, held)

-- a cell's width is at most 64 bits
pub write-requires-clause-values : goal.write-requires-clause-values
write-requires-clause-values g c = λ cell.
    let wide : 2 ^ memory_width c.args.sim.now.netlist.storages ≤ 2 ^ 64 = pow-le-pow_right {n = 2} (omega arith) {i = memory_width c.args.sim.now.netlist.storages} {j = 64} c.requires.scene.narrow in
    let held = ap (λ (s : State). slice_index s.cells cell) c.now.ensures.state in
    omega (arith, c.requires.state.fits.cells InMemory cell, wide, held)

pub returns-in_err-write-in-Some-clause-puts : goal.returns-in_err-write-in-Some-clause-puts
returns-in_err-write-in-Some-clause-puts g c =
    let sim = c.args.sim.now in
    let image = c.args.image.now in
    let writer = c.args.writer.now in
    let label : label_in sim.netlist image sim.state ≡ Some c.in-Some.label =
    sym (c.label_at.ensures ∙ ap (λ marks. label_at marks c.pc.result) c.as_slice.ensures ∙ ap (label_at image.marks) c.pc.ensures) ∙ c.in-Some.is in
    let store = store_is sim.netlist image writer.vars.now writer.address sim.state c.requires.scene ∙ ap (λ (s : State). store_from writer.vars.now writer.address s.cells) (sym c.now.ensures.state) in
    puts_failed _ _ _ _ _ c.from_residual.result c.from_residual.ensures.0 (line_is writer.vars.now writer.last_cells (label_in sim.netlist image sim.state) c.in-Some.label c.args.cycle (store_in image sim.state) _ label store)
    c.in_err-write-in-Some.ensures.puts

pub returns-in_ok-write-in-Some-clause-puts : goal.returns-in_ok-write-in-Some-clause-puts
returns-in_ok-write-in-Some-clause-puts g c =
    let sim = c.args.sim.now in
    let image = c.args.image.now in
    let writer = c.args.writer.now in
    let label : label_in sim.netlist image sim.state ≡ Some c.in-Some.label =
    sym (c.label_at.ensures ∙ ap (λ marks. label_at marks c.pc.result) c.as_slice.ensures ∙ ap (label_at image.marks) c.pc.ensures) ∙ c.in-Some.is in
    let store = store_is sim.netlist image writer.vars.now writer.address sim.state c.requires.scene ∙ ap (λ (s : State). store_from writer.vars.now writer.address s.cells) (sym c.now.ensures.state) in
    puts_ok _ _ _ _ _ c.eq.result (line_is writer.vars.now writer.last_cells (label_in sim.netlist image sim.state) c.in-Some.label c.args.cycle (store_in image sim.state) _ label store)
    c.in_ok-write-in-Some.ensures.puts

pub returns-in_ok-write-in-Some-clause-last_cells : goal.returns-in_ok-write-in-Some-clause-last_cells
returns-in_ok-write-in-Some-clause-last_cells g c =
    let sim = c.args.sim.now in
    let image = c.args.image.now in
    let writer = c.args.writer.now in
    let label : label_in sim.netlist image sim.state ≡ Some c.in-Some.label =
    sym (c.label_at.ensures ∙ ap (λ marks. label_at marks c.pc.result) c.as_slice.ensures ∙ ap (label_at image.marks) c.pc.ensures) ∙ c.in-Some.is in
    let store = store_is sim.netlist image writer.vars.now writer.address sim.state c.requires.scene ∙ ap (λ (s : State). store_from writer.vars.now writer.address s.cells) (sym c.now.ensures.state) in
    c.in_ok-write-in-Some.ensures.last_cells ∙ told_is writer.last_cells (label_in sim.netlist image sim.state) c.in-Some.label (store_in image sim.state) _ label store
