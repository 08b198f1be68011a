-- Control places and the nets that stand there: enables depend on the instruction word alone,
-- selectors on it or on one bit.
use Rattle.std.specs.Prelude.{ℕ, ◌≡◌, ◌==◌, ◌||◌, ◌++◌, List, [], ◌∷◌, map, option_to_list, slice_get, Bool, true}
use Rattle.std.specs.List.{AllByRecursion}
use Rattle.rec_bits.specs.Faults.{gather}
use Rattle.net_model.specs.declared.hardware.Netlist.{Netlist}
use Rattle.net_model.specs.declared.hardware.Net.{Net}
use Rattle.net_model.specs.declared.hardware.Storage.{Storage}
use Rattle.net_model.specs.declared.hardware.Storage.TheVariants.{Register, Memory, File}
use Rattle.net_model.specs.declared.hardware.Gate.{Gate}
use Rattle.net_model.specs.declared.hardware.Gate.TheVariants.{Case, Bus}
use Rattle.net_model.specs.Nets.{width_at, IsRegister, counter_of}
use Rattle.net_model.specs.Symbolic.{is_static}
use Rattle.net_model.specs.Widths.{IsTyped}

-- ---- the nets that stand in control places

abbrev pub storage_enables : Storage → List ℕ
storage_enables (Register name width input when) = option_to_list when
storage_enables (Memory cells) = option_to_list cells.when
storage_enables (File cells) = option_to_list cells.when

abbrev pub gate_enables : Gate → List ℕ
gate_enables (Bus drivers) = map (λ (driver : ℕ × ℕ). driver.1) drivers
gate_enables _ = []

abbrev pub gate_selectors : Gate → List ℕ
gate_selectors (Case sel rows rest) = sel ∷ []
gate_selectors _ = []

abbrev pub write_enables : Netlist → List ℕ
write_enables netlist = gather storage_enables netlist.storages

abbrev pub bus_enables : Netlist → List ℕ
bus_enables netlist = gather (λ (net : Net). gate_enables net.gate) netlist.nets

abbrev pub enables : Netlist → List ℕ
enables netlist = write_enables netlist ++ bus_enables netlist

-- the selectors of cases
abbrev pub selectors : Netlist → List ℕ
selectors netlist = gather (λ (net : Net). gate_selectors net.gate) netlist.nets

abbrev pub control_places : Netlist → List ℕ
control_places netlist = enables netlist ++ selectors netlist

-- ---- what is asked of them

-- each of these nets passes a test
abbrev pub AllPass : (ℕ → Bool) → List ℕ → Type 0
AllPass test ns = AllByRecursion (λ n. test n ≡ true) ns

-- static or one bit wide
abbrev pub is_selector : Netlist → ℕ → Bool
is_selector netlist n = is_static netlist n || (width_at netlist n == 1)

-- the enables of a bus are static, and the selector of a case is static or one bit wide
pub record GateControlled (netlist : Netlist) (gate : Gate) : Type 0 where
  pub enables : AllPass (is_static netlist) (gate_enables gate)
  pub selectors : AllPass (is_selector netlist) (gate_selectors gate)

-- so are those of all gates
pub record IsControlled (netlist : Netlist) : Type 0 where
  pub enables : AllPass (is_static netlist) (bus_enables netlist)
  pub selectors : AllPass (is_selector netlist) (selectors netlist)

-- widths fit, control is static, and the program counter is a register
pub record IsSound (netlist : Netlist) : Type 0 where
  pub typed : IsTyped netlist
  pub controlled : IsControlled netlist
  pub storages : AllPass (is_static netlist) (write_enables netlist)
  pub counter : IsRegister (slice_get netlist.storages (counter_of netlist.codes))
