-- What the netlist of a mode has to do with the netlist, as a statement.
use Rattle.std.specs.Prelude.{ℕ, ◌≡◌, List, Option}
use Rattle.net_model.specs.declared.hardware.Netlist.{Netlist}
use Rattle.net_model.specs.declared.states.State.{State}
use Rattle.net_model.specs.Value.{value_of}
use Rattle.net_model.specs.Clock.{clash_in, clock, step}
use Rattle.net_model.specs.Fixed.{in_mode, mode_in}

-- in a state whose mode is v, the netlist and that of v have the same values of nets, the same
-- clash, and the same clock, under every word
pub record IsInMode (netlist : Netlist) (special : Option ℕ) (v : ℕ) (s : State) : Type 0 where
  pub values : (word n : ℕ) → value_of (in_mode special v netlist) s word n ≡ value_of netlist s word n
  pub clash : (word : ℕ)
      → clash_in (value_of (in_mode special v netlist) s word) (in_mode special v netlist).nets
      ≡ clash_in (value_of netlist s word) netlist.nets
  pub step : (word : ℕ) → step (in_mode special v netlist) s word ≡ step netlist s word
  pub clock : (words : List ℕ) → clock (in_mode special v netlist) words s ≡ clock netlist words s

abbrev pub ModesAreFixed : Type 0
ModesAreFixed =
    (netlist : Netlist) (special : Option ℕ) (v : ℕ) (s : State) →
    mode_in special s ≡ v → IsInMode netlist special v s

-- this netlist stands for another while the mode is v: it has the same storages and codes, and the
-- same clock from states in that mode
pub record IsBase (netlist : Netlist) (special : Option ℕ) (v : ℕ) (base : Netlist) : Type 0 where
  pub storages : base.storages ≡ netlist.storages
  pub codes : base.codes ≡ netlist.codes
  pub clocks : (words : List ℕ) (s : State) → mode_in special s ≡ v → clock netlist words s ≡ clock base words s
