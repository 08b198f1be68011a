-- How far a netlist is clocked that is to come to a state of some kind.
use Rattle.std.specs.Prelude.{ℕ, zero, suc, ◌≡◌, ◌<◌, ◌≤◌, ◌⊎◌, List, Option, Some}
use Rattle.net_model.specs.declared.hardware.Netlist.{Netlist}
use Rattle.net_model.specs.declared.states.State.{State}
use Rattle.net_model.specs.Clock.{clock, counter_in, run, Next, Reached}
use Rattle.src_model.specs.declared.checkpoint.Checkpoint.TheVariants.{End}
use Rattle.code_model.specs.declared.image.Image.{Image}
use Rattle.code_model.specs.Machine.{label_in}

-- after so many clocks, none of which clashes, the netlist is in such a state for the first time;
-- where it is in none within `most` clocks, these are all of them
pub record StopsAt (netlist : Netlist) (words : List ℕ) (Is : State → Type 0) (start : State)
    (most clocks : ℕ) (last : State) : Type 0 where
  pub within : clocks ≤ most
  pub reached : run netlist words start clocks ≡ Reached last
  pub before : (k : ℕ) (s : State) → k < clocks → run netlist words start k ≡ Reached s → Is s → ⊥
  pub stops : Is last ⊎ (clocks ≡ most)

-- of so many clocks, none before such a state clashes
unfoldable pub RunsOn : Netlist → List ℕ → (State → Type 0) → ℕ → State → Type 0
RunsOn netlist words Is zero s = Unit {0}
RunsOn netlist words Is (suc n) s =
    Is s ⊎ ((t : State) × (clock netlist words s ≡ Next t) × RunsOn netlist words Is n t)

-- the program counter stands at the end mark of an image
abbrev pub IsAtEnd : Netlist → Image → State → Type 0
IsAtEnd netlist image s = label_in netlist image s ≡ Some End

-- or at this address, if it is one
abbrev pub StandsAt : Netlist → Option ℕ → State → Type 0
StandsAt netlist address s = address ≡ Some (counter_in netlist s)
