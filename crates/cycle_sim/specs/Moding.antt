-- What the simulators of a netlist in its modes keep.
use Rattle.std.specs.Prelude.{ℕ, ◌≡◌, ◌<◌, List, [], length, map, None, slice_index_or, slice_set}
use Rattle.std.specs.List.{AllByRecursion}
use Rattle.net_model.specs.declared.hardware.Netlist.{Netlist}
use Rattle.net_model.specs.Fixed.{mode_in}
use Rattle.net_model.specs.ModeRules.{bases_of, no_netlist}
use Rattle.net_model.specs.Symbolic.{no_state}
use Rattle.net_model.specs.Widths.{IsState}
use Rattle.cycle_sim.specs.Shown.{Shown}
use Rattle.cycle_sim.specs.Trades.{holding}

abbrev pub no_sim : Shown
no_sim = record { netlist = no_netlist; words = []; state = no_state; last_write = None }

abbrev pub sim_at : List Shown → ℕ → Shown
sim_at sims mode = slice_index_or sims mode no_sim

-- what is shown of a netlist whose simulator of this mode holds the state
abbrev pub shown_by : Netlist → List Shown → ℕ → Shown
shown_by netlist sims mode = record (sim_at sims mode) { netlist = netlist }

-- a simulator for each mode, on the same words, and the state of that of the mode is in the mode
pub record AreSims (netlist : Netlist) (sims : List Shown) (mode : ℕ) : Type 0 where
  pub bases : map (λ (sim : Shown). sim.netlist) sims ≡ bases_of netlist
  pub words : AllByRecursion (λ (sim : Shown). sim.words ≡ (sim_at sims mode).words) sims
  pub within : mode < length sims
  pub here : mode_in netlist.special (sim_at sims mode).state ≡ mode
  pub state : IsState netlist (sim_at sims mode).state

-- two of the simulators have exchanged what they hold
abbrev pub traded : List Shown → ℕ → ℕ → List Shown
traded sims from to =
    slice_set (slice_set sims from (holding (sim_at sims from) (sim_at sims to))) to
    (holding (sim_at sims to) (sim_at sims from))
