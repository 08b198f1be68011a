use Rattle.std.proofs.Common.{◌≡◌, ◌∙◌, ◌++◌, ◌<◌, ◌^◌, ap, arith, length, subst}
use Rattle.std.specs.Prelude.{vec_capacity}
use Rattle.std.proofs.lemmas.Bool.{false≢true}
use Rattle.net_model.specs.declared.hardware.Netlist.{Netlist}
use Rattle.net_model.specs.Clock.{run, Reached}
use Rattle.cycle_sim.specs.Shown.{Shown}
use Rattle.state_text.specs.Shown.{state_text}
use Rattle.run_command.proofs.Firsts.{room_first, text_held}
use Rattle.run_command.proofs.machine.clocked.Goals as goal

pub write_state-requires : goal.write_state-requires
write_state-requires c = record { state = c.now.ensures.fits }

pub unreachable-requires : goal.unreachable-requires
unreachable-requires c =
    let netlist = c.args.modes.now.netlist in
    let whole = c.clock_all.new.sim in
    let same : whole.netlist ≡ netlist = c.clock_all.ensures.netlist ∙ ap (λ (sim : Shown). sim.netlist) c.in_ok-sim.ensures in
    let small : c.from.result < 2 ^ 64 = omega arith in
    let room = room_first netlist c.first.result.now.netlist c.first.ensures.base whole c.now.result.now same c.now.ensures (vec_capacity c.in_ok-text.text) c.in_ok-text.ensures.room c.from.result small in
    let empty = ap length c.in_ok-text.ensures.empty in
    false≢true (c.in-Err-write_state.ensures.succeeds (omega (arith, room, empty)))

pub returns-clause-text : goal.returns-clause-text
returns-clause-text c =
    let netlist = c.args.modes.now.netlist in
    let whole = c.clock_all.new.sim in
    let sim = c.now.result.now in
    let same : whole.netlist ≡ netlist = c.clock_all.ensures.netlist ∙ ap (λ (s : Shown). s.netlist) c.in_ok-sim.ensures in (
      whole.state,
      subst (λ (s : Shown). run s.netlist s.words s.state c.args.clocks ≡ Reached whole.state) c.in_ok-sim.ensures c.in_default.ensures.ended,
      c.in-Ok.ensures.text
          ∙ (λ i. c.in_ok-text.ensures.empty i ++ state_text sim.netlist (c.from.ensures i) sim.state)
          ∙ text_held whole sim c.now.ensures c.args.clocks
          ∙ ap (λ (n : Netlist). state_text n c.args.clocks whole.state) same,
    )
