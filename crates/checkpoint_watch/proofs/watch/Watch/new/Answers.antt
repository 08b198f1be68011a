use Rattle.std.proofs.Common.{◌≡◌, ap, ◌∙◌, arith}
use Rattle.src_model.specs.Meaning.{cell_count}
use Rattle.src_model.specs.Trace.{strace}
use Rattle.src_model.specs.Rules.{temp_count}
use Rattle.src_model.specs.Written.{model_of_program}
use Rattle.cycle_sim.specs.Shown.{Shown}
use Rattle.src_model.specs.Meaning.{zeros}
use Rattle.checkpoint_watch.proofs.Fronts.{shows_first, strace_steady, strace_enough}
use Rattle.checkpoint_watch.proofs.Starting.{words_fit, scene_of, told_of, ready}
use Rattle.checkpoint_watch.proofs.watch.Watch.new.Goals as goal

pub new-requires-clause-words : goal.new-requires-clause-words
new-requires-clause-words c =
    rw c.in_ok-words.ensures (words_fit c.args.modes.now.netlist c.args.modes.now.bases c.netlist-netlist.ensures.kept c.args.image.now.words c.requires.fits.words)

pub new-requires-2 : goal.new-requires-2
new-requires-2 c =
    let typed = c.args.typed.now in
    let vars = typed.program.vars in
    let scene = scene_of c.args.modes.now.netlist c.args.modes.now.bases c.netlist-netlist.ensures.kept (temp_count typed.width (model_of_program typed.program)) vars c.args.image.now c.args.start c.requires.start.here.state c.requires.layout c.requires.fits in
    let last_cells : c.as_slice.result.now ≡ vars = c.as_slice.ensures ∙ ap (λ p. p.vars) c.program.ensures.value in
    omega (arith, ap cell_count last_cells, scene.within, scene.few)

pub invariant_of-result : goal.invariant_of-result
invariant_of-result c =
    let netlist = c.args.modes.now.netlist in
    let image = c.args.image.now in
    let typed = c.args.typed.now in
    let vars = typed.program.vars in
    let first = shows_first netlist image (strace typed.width (model_of_program typed.program)) c.requires.traces (strace_steady typed.width (model_of_program typed.program)) (strace_enough typed.width (model_of_program typed.program)) c.args.start c.args.clocks c.requires.start in
    let scene = scene_of netlist c.args.modes.now.bases c.netlist-netlist.ensures.kept (temp_count typed.width (model_of_program typed.program)) vars image c.args.start c.requires.start.here.state c.requires.layout c.requires.fits in
    let named : c.as_slice.result.now ≡ vars = c.as_slice.ensures ∙ ap (λ p. p.vars) c.program.ensures.value in
    let made = c.in_ok-sim.ensures in
    let sim = c.in_ok-sim.sim in
    ready netlist image (strace typed.width (model_of_program typed.program)) c.args.start c.args.clocks first sim vars c.in_ok-writer.writer.vars.now
    (ap (λ (s : Shown). s.netlist) made) (ap (λ (s : Shown). s.state) made) (c.in_ok-writer.ensures.vars ∙ named)
    c.in_ok-writer.writer.address c.in_ok-writer.writer.last_cells (ap (λ (s : Shown). s.words) made ∙ c.in_ok-words.ensures) c.in_ok-writer.ensures.address (c.in_ok-writer.ensures.last_cells ∙ ap zeros named)
    c.requires.start.here.state scene

pub returns : goal.returns
returns c =
    let netlist = c.args.modes.now.netlist in
    let image = c.args.image.now in
    let typed = c.args.typed.now in
    let vars = typed.program.vars in
    let first = shows_first netlist image (strace typed.width (model_of_program typed.program)) c.requires.traces (strace_steady typed.width (model_of_program typed.program)) (strace_enough typed.width (model_of_program typed.program)) c.args.start c.args.clocks c.requires.start in
    let named : c.as_slice.result.now ≡ vars = c.as_slice.ensures ∙ ap (λ p. p.vars) c.program.ensures.value in
    let made = c.in_ok-sim.ensures in
    told_of netlist image (strace typed.width (model_of_program typed.program)) c.args.start c.args.clocks first c.in_ok-sim.sim vars c.in_ok-writer.writer.vars.now
    (ap (λ (s : Shown). s.netlist) made) (ap (λ (s : Shown). s.state) made) (c.in_ok-writer.ensures.vars ∙ named)
