use Rattle.std.proofs.Common.{◌∙◌, ap, arith}
use Rattle.cycle_sim.specs.Shown.{Shown}
use Rattle.cycle_sim.proofs.Sims.{base_alike, start_fits, start_within, started, started_shown, words_at_base}
use Rattle.cycle_sim.proofs.modes.ModeSim.new.Goals as goal

pub blank_sim-requires : goal.blank_sim-requires
blank_sim-requires c = rw (c.first.ensures.base, c.as_slice.ensures) (words_at_base c.args.modes.now.netlist 0 c.args.words c.requires.words)

pub index_mut-requires : goal.index_mut-requires
index_mut-requires c =
    let sims = c.in_ok-sims.sims in
    let within = start_within c.args.modes.now.netlist sims.items c.in_ok-sims.ensures.bases c.args.start c.requires.start c.mode_of-mode.result c.mode_of-mode.ensures.mode in
    omega (arith, within, sims.ok.0)

pub put-requires : goal.put-requires
put-requires c =
    start_fits c.args.modes.now.netlist c.in_ok-sims.sims.items c.in_ok-sims.ensures.bases c.args.start c.requires.start c.mode_of-mode.result
    c.mode_of-mode.ensures.mode c.index_mut.result.now c.index_mut.ensures.value

pub invariant_of-result : goal.invariant_of-result
invariant_of-result c = (
  started c.args.modes.now.netlist c.in_ok-sims.sims.items c.in_ok-sims.ensures.bases c.args.start c.requires.start c.mode_of-mode.result
      c.mode_of-mode.ensures.mode c.index_mut.result.now c.index_mut.ensures.value c.as_slice-2.result.now c.in_ok-sims.ensures.words c.in_ok-sims.ensures.unwritten
      c.put.new.self c.put.ensures,
  base_alike c.args.modes.now.netlist c.in_ok-spare.spare.netlist 0 (ap (λ (sim : Shown). sim.netlist) c.in_ok-spare.ensures ∙ c.first.ensures.base),
)

pub returns : goal.returns
returns c =
    rw (← c.as_slice-2.ensures)
    (started_shown c.args.modes.now.netlist c.in_ok-sims.sims.items c.in_ok-sims.ensures.bases c.args.start c.requires.start c.mode_of-mode.result
    c.mode_of-mode.ensures.mode c.index_mut.result.now c.index_mut.ensures.value c.as_slice-2.result.now c.in_ok-sims.ensures.words c.in_ok-sims.ensures.unwritten
    c.put.new.self c.put.ensures)
