-- What a clock of a view is to a clock of its netlist.
use Rattle.std.specs.Prelude.{◌≡◌, ℕ, true}
use Rattle.net_model.specs.declared.hardware.Netlist.{Netlist}
use Rattle.net_model.specs.declared.states.State.{State}
use Rattle.net_model.specs.Clock.{Outcome, Next, Clash, is_enabled}
use Rattle.net_model.specs.Value.{value_of}
use Rattle.bank_view.specs.Banks.{bank_port, memory_port}
use Rattle.bank_view.specs.Views.{join_state}

-- the word writes both memories
pub record WritesBoth (n : Netlist) (s : State) (word : ℕ) : Type 0 where
  pub memory : is_enabled (value_of n s word) (memory_port n).when ≡ true
  pub bank : is_enabled (value_of n s word) (bank_port n).when ≡ true

-- both clash, or the view's next state is the netlist's, with its cells joined
abbrev pub IsViewed : Netlist → Outcome → Outcome → Type 0
IsViewed n (Next t) (Next u) = u ≡ join_state n t
IsViewed n (Clash bus) (Clash other) = Unit {0}
IsViewed n _ _ = ⊥

abbrev pub IsClash : Outcome → Type 0
IsClash (Next u) = ⊥
IsClash (Clash bus) = Unit {0}
