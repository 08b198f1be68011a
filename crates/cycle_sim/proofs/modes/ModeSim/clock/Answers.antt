use Rattle.std.proofs.Common.{◌≡◌, ◌∙◌, List, ap, arith, set, subst, sym}
use Rattle.std.proofs.lemmas.List.{length-set}
use Rattle.net_model.specs.Fixed.{mode_in}
use Rattle.net_model.specs.Widths.{IsState}
use Rattle.cycle_sim.specs.Clocks.{Clocks}
use Rattle.cycle_sim.specs.Shown.{Shown}
use Rattle.cycle_sim.specs.Moding.{AreSims, shown_by, sim_at, traded}
use Rattle.cycle_sim.proofs.Sims.{IsClocked, clocked_state, next_alike, next_here_alike, read_back, stays, stays_clocks, to_within, trades, trades_clocks, trades_words}
use Rattle.cycle_sim.proofs.modes.ModeSim.clock.Goals as goal
use Rattle.cycle_sim.proofs.modes.ModeSim.clock.Goals.{After-clock-clocked, After-mode_of-mode}

clocking : (c : After-clock-clocked) → IsClocked c.self.inside.modes.now.netlist c.self.inside.sims.items c.self.inside.mode c.index_mut.result.now c.clock-clocked.new.self c.clock-clocked.result
clocking c = record {
  are = c.self.invariant.0;
  is = c.index_mut.ensures.value;
  same_netlist = c.clock-clocked.ensures.netlist;
  same_words = c.clock-clocked.ensures.words;
  clocks = c.clock-clocked.ensures.clocks;
  fits = c.clock-clocked.ensures.state;
}

pub mode_of-mode-requires : goal.mode_of-mode-requires
mode_of-mode-requires c =
    let k = clocking (goal.at.mode_of-mode-requires c).After-clock-clocked in
    rw (c.state.ensures.value, read_back k c.index.result.now c.index.ensures) (clocked_state k)

-- the mode is that of the new state
moved : (c : After-mode_of-mode) → IsClocked c.self.inside.modes.now.netlist c.self.inside.sims.items c.self.inside.mode c.index_mut.result.now c.clock-clocked.new.self c.clock-clocked.result →
    c.mode_of-mode.result ≡ mode_in c.self.inside.modes.now.netlist.special c.clock-clocked.new.self.state
moved c k =
    c.mode_of-mode.ensures.mode
    ∙ ap (mode_in c.self.inside.modes.now.netlist.special) (c.state.ensures.value ∙ ap (λ (sim : Shown). sim.state) (read_back k c.index.result.now c.index.ensures))

pub trade-requires-clause-to : goal.trade-requires-clause-to
trade-requires-clause-to c =
    let k = clocking (goal.at.trade-requires-clause-to c).After-clock-clocked in
    let is = moved (goal.at.trade-requires-clause-to c).After-mode_of-mode k in
    let sims = c.self.inside.sims in
    let within = to_within k c.mode_of-mode.result is c.if-mode-self.true in
    omega (arith, within, length-set sims.items c.self.inside.mode c.clock-clocked.new.self, sims.ok.0)

pub trade-requires-clause-alike : goal.trade-requires-clause-alike
trade-requires-clause-alike c =
    let k = clocking (goal.at.trade-requires-clause-alike c).After-clock-clocked in
    let is = moved (goal.at.trade-requires-clause-alike c).After-mode_of-mode k in
    next_alike k c.mode_of-mode.result is c.if-mode-self.true

pub trade-requires-clause-spare : goal.trade-requires-clause-spare
trade-requires-clause-spare c =
    let k = clocking (goal.at.trade-requires-clause-spare c).After-clock-clocked in
    c.self.invariant.1 ∙ sym (next_here_alike k)

pub invariant_of-self : goal.invariant_of-self
invariant_of-self c =
    let k = clocking (goal.at.invariant_of-self c).After-clock-clocked in
    let is = moved (goal.at.invariant_of-self c).After-mode_of-mode k in (
      subst (λ (sims : List Shown). AreSims c.self.inside.modes.now.netlist sims c.mode_of-mode.result)
          (sym c.trade.ensures.sims) (trades k c.mode_of-mode.result is c.if-mode-self.true),
      rw c.trade.ensures.spare c.self.invariant.1,
    )

pub invariant_of-self-else-mode-self : goal.invariant_of-self-else-mode-self
invariant_of-self-else-mode-self c =
    let k = clocking (goal.at.invariant_of-self-else-mode-self c).After-clock-clocked in
    let is = moved (goal.at.invariant_of-self-else-mode-self c).After-mode_of-mode k in
    (stays k (sym is ∙ c.if-mode-self.false), c.self.invariant.1)

pub returns-then-mode-self-clause-words : goal.returns-then-mode-self-clause-words
returns-then-mode-self-clause-words c =
    let k = clocking (goal.at.returns-then-mode-self-clause-words c).After-clock-clocked in
    let is = moved (goal.at.returns-then-mode-self-clause-words c).After-mode_of-mode k in
    subst (λ (sims : List Shown). (sim_at sims c.mode_of-mode.result).words ≡ c.args.self.now.words)
    (sym c.trade.ensures.sims)
    (trades_words k c.mode_of-mode.result is c.if-mode-self.true ∙ ap (λ (sim : Shown). sim.words) c.self.view_is)

pub returns-then-mode-self-clause-clocks : goal.returns-then-mode-self-clause-clocks
returns-then-mode-self-clause-clocks c =
    let k = clocking (goal.at.returns-then-mode-self-clause-clocks c).After-clock-clocked in
    let is = moved (goal.at.returns-then-mode-self-clause-clocks c).After-mode_of-mode k in
    subst (λ (sims : List Shown). Clocks c.args.self.now (shown_by c.self.inside.modes.now.netlist sims c.mode_of-mode.result) c.clock-clocked.result)
    (sym c.trade.ensures.sims)
    (subst (λ (old : Shown). Clocks old (shown_by c.self.inside.modes.now.netlist (traded (set c.self.inside.sims.items c.self.inside.mode c.clock-clocked.new.self) c.self.inside.mode c.mode_of-mode.result) c.mode_of-mode.result) c.clock-clocked.result)
    c.self.view_is (trades_clocks k c.mode_of-mode.result is c.if-mode-self.true))

pub returns-then-mode-self-clause-state : goal.returns-then-mode-self-clause-state
returns-then-mode-self-clause-state c =
    let k = clocking (goal.at.returns-then-mode-self-clause-state c).After-clock-clocked in
    let is = moved (goal.at.returns-then-mode-self-clause-state c).After-mode_of-mode k in
    subst (λ (sims : List Shown). IsState c.self.inside.modes.now.netlist (sim_at sims c.mode_of-mode.result).state)
    (sym c.trade.ensures.sims) (trades k c.mode_of-mode.result is c.if-mode-self.true).state

pub returns-else-mode-self-clause-clocks : goal.returns-else-mode-self-clause-clocks
returns-else-mode-self-clause-clocks c =
    let k = clocking (goal.at.returns-else-mode-self-clause-clocks c).After-clock-clocked in
    subst (λ (old : Shown). Clocks old (shown_by c.self.inside.modes.now.netlist (set c.self.inside.sims.items c.self.inside.mode c.clock-clocked.new.self) c.self.inside.mode) c.clock-clocked.result)
    c.self.view_is (stays_clocks k)

pub returns-else-mode-self-clause-state : goal.returns-else-mode-self-clause-state
returns-else-mode-self-clause-state c =
    let k = clocking (goal.at.returns-else-mode-self-clause-state c).After-clock-clocked in
    let is = moved (goal.at.returns-else-mode-self-clause-state c).After-mode_of-mode k in
    (stays k (sym is ∙ c.if-mode-self.false)).state
