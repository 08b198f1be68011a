use Rattle.std.proofs.Common.{ℕ, ◌+◌, ◌-◌, List, arith, sym, ◌∙◌, ap}
use Rattle.net_model.specs.declared.hardware.Netlist.{Netlist}
use Rattle.net_model.specs.Clock.{run_from, Clashed}
use Rattle.run_command.proofs.ClockLemmas.{run_next, run_clash}
use Rattle.run_command.proofs.clocks.clock_all.Goals as goal

pub returns-in-Clash-clause-ended : goal.returns-in-Clash-clause-ended
returns-in-Clash-clause-ended c =
    let sim = c.loop-cycle.sim in
    let left = c.args.clocks - c.loop-cycle.cycle in
    c.loop-cycle.invariant.left
    ∙ run_clash sim.netlist sim.words sim.state c.loop-cycle.cycle c.in-Clash.bus (left - 1) left (omega arith) c.in-Clash.ensures.clocks.0
    ∙ ap (λ n. Clashed n c.in-Clash.bus) (sym c.from.ensures)

pub loop-cycle-preserved : goal.loop-cycle-preserved
loop-cycle-preserved c =
    let sim = c.loop-cycle.sim in
    let new = c.clock.new.self in
    let left = c.args.clocks - c.loop-cycle.cycle in
    let more = c.args.clocks - (c.loop-cycle.cycle + 1) in
    record {
      netlist = c.clock.ensures.netlist ∙ c.loop-cycle.invariant.netlist;
      words = c.clock.ensures.words ∙ c.loop-cycle.invariant.words;
      left =
          c.loop-cycle.invariant.left
          ∙ run_next sim.netlist sim.words sim.state new.state c.loop-cycle.cycle more left (omega arith) c.in-Stepped.ensures.clocks.0
          ∙ ap (λ (n : Netlist). run_from (c.loop-cycle.cycle + 1) n sim.words new.state more) (sym c.clock.ensures.netlist)
          ∙ ap (λ (ws : List ℕ). run_from (c.loop-cycle.cycle + 1) new.netlist ws new.state more) (sym c.clock.ensures.words);
    }
