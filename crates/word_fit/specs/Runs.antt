-- Words in a code, clocked in order. One clock under such a word, words that stand in a code from
-- an address on, and so many clocks that leave what a list of groups leaves.
use Rattle.std.specs.Prelude.{◌≡◌, ℕ, ◌+◌, ◌%◌, ◌^◌, List, [], ◌∷◌, slice_index}
use Rattle.net_model.specs.declared.hardware.Netlist.{Netlist}
use Rattle.net_model.specs.declared.states.State.{State}
use Rattle.net_model.specs.Nets.{counter_width}
use Rattle.net_model.specs.Clock.{Next, Reached, clock, counter_in, run}
use Rattle.net_model.specs.Widths.{IsState}
use Rattle.form_model.specs.Effects.{Operation}
use Rattle.form_model.specs.Live.{Regs}
use Rattle.word_fit.specs.Groups.{Agree, Follows}

-- a clock doesn't clash, follows the group, and leaves the program counter one on; behind the last
-- address that it can have, it is 0
pub record IsClocked {A : Type 0} (netlist : Netlist) (m : A → Operation) (words : List ℕ)
    (g : List A) (live : Regs) (s : State) : Type 0 where
  pub next : State
  pub clocked : clock netlist words s ≡ Next next
  pub state : IsState netlist next
  pub follows : Follows m g live s next
  pub counter : counter_in netlist next ≡ (counter_in netlist s + 1) % 2 ^ counter_width netlist

-- the words stand in the code from this address on
abbrev pub StandAt : List ℕ → ℕ → List ℕ → Type 0
StandAt words address [] = Unit {0}
StandAt words address (w ∷ ws) = (slice_index words address ≡ w) × StandAt words (address + 1) ws

-- so many clocks don't clash, leave the program counter as many addresses on, as far as its width
-- goes, and leave the memory, the file and the live registers of t
pub record RunsTo (netlist : Netlist) (words : List ℕ) (s : State) (clocks : ℕ) (live : Regs) (t : State) : Type 0 where
  pub last : State
  pub is : run netlist words s clocks ≡ Reached last
  pub state : IsState netlist last
  pub counter : counter_in netlist last ≡ (counter_in netlist s + clocks) % 2 ^ counter_width netlist
  pub agree : Agree live last t
