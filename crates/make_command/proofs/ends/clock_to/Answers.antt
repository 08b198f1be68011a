use Rattle.std.proofs.Common.{ℕ, ◌≡◌, ◌-◌, ◌+◌, refl, nat_eq, Some, sym, ◌∙◌, ap, subst, arith}
use Rattle.std.specs.Option.{option_eq}
use Rattle.net_model.specs.declared.hardware.Netlist.{Netlist}
use Rattle.net_model.specs.Clock.{clock, counter_in, Next, Clash}
use Rattle.make_command.specs.Stops.{RunsOn, StandsAt}
use Rattle.make_command.proofs.Clocks.{GoesOn, clean, goes_on, not_there}
use Rattle.make_command.proofs.ends.clock_to.Goals as goal

pub unreachable-requires : goal.unreachable-requires
unreachable-requires c =
    let now = c.loop-clocks.sim in
    let first = c.args.sim.now in
    let at = c.loop-clocks.invariant in
    let left = c.args.most - c.loop-clocks.clocks in
    let not = not_there c.args.address (counter_in first.netlist now.state)
    (sym (c.if-eq.ensures ∙ ap (λ (n : ℕ). option_eq nat_eq c.args.address (Some n)) (c.pc.ensures ∙ ap (λ (n : Netlist). counter_in n now.state) at.netlist))) in
    let on : GoesOn first.netlist first.words (StandsAt first.netlist c.args.address) (left - 1) now.state =
    clean first.netlist first.words (StandsAt first.netlist c.args.address) left (left - 1) now.state (omega arith) not at.ahead in
    let clash : clock now.netlist now.words now.state ≡ Clash c.in-Clash.field-0 = c.in-Clash.ensures.clocks.0 in
    let same : clock now.netlist now.words now.state ≡ clock first.netlist first.words now.state = rw (at.netlist, at.words) refl in
    let both : Next on.next ≡ Clash c.in-Clash.field-0 = sym on.clocked ∙ (sym same ∙ clash) in
    cc

pub loop-clocks-preserved : goal.loop-clocks-preserved
loop-clocks-preserved c =
    let now = c.loop-clocks.sim in
    let first = c.args.sim.now in
    let at = c.loop-clocks.invariant in
    let Is = StandsAt first.netlist c.args.address in
    let left = c.args.most - c.loop-clocks.clocks in
    let not = not_there c.args.address (counter_in first.netlist now.state)
    (sym (c.if-eq.ensures ∙ ap (λ (n : ℕ). option_eq nat_eq c.args.address (Some n)) (c.pc.ensures ∙ ap (λ (n : Netlist). counter_in n now.state) at.netlist))) in
    let on : GoesOn first.netlist first.words Is (left - 1) now.state = clean first.netlist first.words Is left (left - 1) now.state (omega arith) not at.ahead in
    let same : clock now.netlist now.words now.state ≡ clock first.netlist first.words now.state = rw (at.netlist, at.words) refl in
    let stepped : clock first.netlist first.words now.state ≡ Next c.clock.new.self.state = sym same ∙ c.in-Stepped.ensures.clocks.0 in
    let reached : Next on.next ≡ Next c.clock.new.self.state = sym on.clocked ∙ stepped in
    let there : on.next ≡ c.clock.new.self.state = cc in
    let less : left - 1 ≡ c.args.most - (c.loop-clocks.clocks + 1) = omega arith in
    record {
      netlist = c.clock.ensures.netlist ∙ at.netlist;
      words = c.clock.ensures.words ∙ at.words;
      so_far = goes_on first.netlist first.words Is first.state c.loop-clocks.clocks now.state c.clock.new.self.state at.so_far not stepped;
      ahead = subst (λ (n : ℕ). RunsOn first.netlist first.words Is n c.clock.new.self.state) less (subst (RunsOn first.netlist first.words Is (left - 1)) there on.runs);
    }
