-- How clocks lead from state to state. A word that keeps the mode; clocks that lead from a state
-- in mode 0 at one address to such a state at another (`IsCalm` of `Machine`).
use Rattle.std.specs.Prelude.{ℕ, zero, suc, ◌≡◌, None}
use Rattle.net_model.specs.declared.hardware.Netlist.{Netlist}
use Rattle.net_model.specs.declared.states.State.{State}
use Rattle.code_model.specs.declared.image.Image.{Image}
use Rattle.net_model.specs.Clock.{clock, Next}
use Rattle.code_model.specs.Places.{words_of}
use Rattle.code_model.specs.Machine.{label_in, IsCalm}

-- n clocks lead from s to t, and none of the states before t stands at a mark
abbrev pub Reaches : Netlist → Image → State → ℕ → State → Type 0
Reaches netlist image s zero t = s ≡ t
Reaches netlist image s (suc n) t =
    (u : State) × (label_in netlist image s ≡ None) × (clock netlist (words_of image) s ≡ Next u)
    × Reaches netlist image u n t

-- one clock leads to a calm state at an address, and the cells stay
pub record Goes (netlist : Netlist) (image : Image) (to : ℕ) (s : State) : Type 0 where
  pub next : State
  pub clocked : clock netlist (words_of image) s ≡ Next next
  pub here : IsCalm netlist to next
  pub same : next.cells ≡ s.cells

-- and so it does from each calm state at another address
pub record GoesTo (netlist : Netlist) (image : Image) (from to : ℕ) : Type 0 where
  pub goes : (s : State) → IsCalm netlist from s → Goes netlist image to s
