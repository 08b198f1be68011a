-- A clock of the simulator that holds the state is one of the netlist itself.
use Rattle.std.proofs.Common.{◌≡◌, ℕ, List, length, Option, Some, None, refl, sym, ◌∙◌, ap}
use Rattle.net_model.specs.declared.hardware.Netlist.{Netlist}
use Rattle.net_model.specs.declared.hardware.Space.TheVariants.{Memory as InMemory}
use Rattle.net_model.specs.declared.states.State.{State}
use Rattle.net_model.specs.Clock.{clock, word_at}
use Rattle.net_model.specs.Fixed.{in_mode, mode_in}
use Rattle.net_model.specs.ModeRules.{base_at}
use Rattle.net_model.specs.Modes.{IsInMode}
use Rattle.net_model.specs.Nets.{array_in}
use Rattle.net_model.proofs.Clocking.{modes_are_fixed}
use Rattle.cycle_sim.specs.Clocks.{Clocks, cell_net, written_cell}
use Rattle.cycle_sim.specs.Shown.{Shown}
use Rattle.cycle_sim.specs.declared.sim.Clocked.{Clocked}
use Rattle.cycle_sim.specs.declared.sim.Clocked.TheVariants.{Stepped}
use Rattle.cycle_sim.specs.declared.sim.Clocked.TheVariants as answer

module _ (netlist : Netlist) (v : ℕ) where
  -- the same cell is written
  written_in : (special : Option ℕ) (words : List ℕ) (s : State) → mode_in special s ≡ v → written_cell (in_mode special v netlist) words s ≡ written_cell netlist words s
  written_in None words s is = refl
  written_in (Some mode) words s is =
      let h : IsInMode netlist (Some mode) v s = modes_are_fixed netlist (Some mode) v s is in
      ap (λ (values : ℕ → ℕ). cell_net values (array_in InMemory netlist.storages) (length s.cells)) (λ i n. h.values (word_at netlist words s) n i)

  written_same : (words : List ℕ) (s : State) → mode_in netlist.special s ≡ v → written_cell (base_at netlist v) words s ≡ written_cell netlist words s
  written_same words s is = written_in netlist.special words s is

  clock_same : (words : List ℕ) (s : State) → mode_in netlist.special s ≡ v → clock (base_at netlist v) words s ≡ clock netlist words s
  clock_same words s is = (modes_are_fixed netlist netlist.special v s is).clock words

  -- what a clock of the netlist of the mode leads to, a clock of the netlist does
  pub clocks_same : (old new : Shown) (clocked : Clocked) → old.netlist ≡ base_at netlist v → mode_in netlist.special old.state ≡ v → Clocks old new clocked →
      Clocks (record old { netlist = netlist }) (record new { netlist = netlist }) clocked
  clocks_same old new Stepped own is (next, written) = (
    sym (clock_same old.words old.state is) ∙ ap (λ (n : Netlist). clock n old.words old.state) (sym own) ∙ next,
    written ∙ ap (λ (n : Netlist). written_cell n old.words old.state) own ∙ written_same old.words old.state is,
  )
  clocks_same old new (answer.Clash bus) own is (clash, same, none) =
      (sym (clock_same old.words old.state is) ∙ ap (λ (n : Netlist). clock n old.words old.state) (sym own) ∙ clash, same, none)
