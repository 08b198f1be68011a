-- What fits: widths of nets and of what feeds them, values, words and states.
use Rattle.std.specs.Prelude.{ℕ, ◌+◌, ◌-◌, ◌^◌, ◌<◌, ◌≤◌, ◌≡◌, List, [], ◌∷◌, length, Option, Some, None, slice_get, slice_index}
use Rattle.std.specs.List.{AllByRecursion}
use Rattle.rec_bits.specs.Operators.{result_width}
use Rattle.net_model.specs.declared.hardware.Netlist.{Netlist}
use Rattle.net_model.specs.declared.hardware.Net.{Net}
use Rattle.net_model.specs.declared.hardware.Storage.{Storage}
use Rattle.net_model.specs.declared.hardware.Storage.TheVariants.{Register, Memory, File}
use Rattle.net_model.specs.declared.hardware.Cells.{Cells}
use Rattle.net_model.specs.declared.hardware.Space.{Space}
use Rattle.net_model.specs.declared.hardware.Gate.{Gate}
use Rattle.net_model.specs.declared.hardware.Gate.TheVariants.{Word, Reg, Read, Const, Wire, Un, Bin, Slice, Cat, Zext, Sext, Case, Bus}
use Rattle.net_model.specs.declared.states.State.{State}
use Rattle.net_model.specs.Nets.{width_at, code_bits, storage_bits, width_in, size_in, space_at, held}

-- a net of this width
abbrev pub HasWidth : Netlist → ℕ → ℕ → Type 0
HasWidth netlist n width = (n < length netlist.nets) × (width_at netlist n ≡ width)

-- a net
abbrev pub IsNet : Netlist → ℕ → Type 0
IsNet netlist n = n < length netlist.nets

abbrev pub RowsFit : Netlist → ℕ → ℕ → List (ℕ × ℕ) → Type 0
RowsFit netlist key width [] = Unit {0}
RowsFit netlist key width (row ∷ rows) =
    (row.0 < 2 ^ key) × HasWidth netlist row.1 width × RowsFit netlist key width rows

abbrev pub RestFits : Netlist → ℕ → Option ℕ → Type 0
RestFits netlist width None = Unit {0}
RestFits netlist width (Some n) = HasWidth netlist n width

abbrev pub DriversFit : Netlist → ℕ → List (ℕ × ℕ) → Type 0
DriversFit netlist width [] = Unit {0}
DriversFit netlist width (driver ∷ drivers) =
    HasWidth netlist driver.0 width × HasWidth netlist driver.1 1 × DriversFit netlist width drivers

-- the gate gives a value of this width
abbrev pub GateFits : Netlist → ℕ → Gate → Type 0
GateFits netlist width (Word code) = code_bits (slice_get netlist.codes code) ≡ width
GateFits netlist width (Reg id) = storage_bits (slice_get netlist.storages id) ≡ width
GateFits netlist width (Read memory addr) =
    IsNet netlist addr × (width_in (space_at netlist memory) netlist.storages ≡ width)
GateFits netlist width (Const c) = c < 2 ^ width
GateFits netlist width (Wire a) = HasWidth netlist a width
GateFits netlist width (Un op a) = HasWidth netlist a width
GateFits netlist width (Bin op a b) =
    IsNet netlist a × HasWidth netlist b (width_at netlist a) × (result_width op (width_at netlist a) ≡ width)
GateFits netlist width (Slice of hi lo) =
    IsNet netlist of × (lo ≤ hi) × (hi < width_at netlist of) × (hi + 1 - lo ≡ width)
GateFits netlist width (Cat a b) =
    IsNet netlist a × IsNet netlist b × (width_at netlist a + width_at netlist b ≡ width)
GateFits netlist width (Zext a) = IsNet netlist a × (width_at netlist a < width)
GateFits netlist width (Sext a) = IsNet netlist a × (width_at netlist a < width)
GateFits netlist width (Case sel rows rest) =
    IsNet netlist sel × RowsFit netlist (width_at netlist sel) width rows × RestFits netlist width rest
GateFits netlist width (Bus drivers) = DriversFit netlist width drivers

abbrev pub NetFits : Netlist → Option Net → Type 0
NetFits netlist None = Unit {0}
NetFits netlist (Some net) = (1 ≤ net.width) × (net.width ≤ 64) × GateFits netlist net.width net.gate

abbrev pub WhenFits : Netlist → Option ℕ → Type 0
WhenFits netlist None = Unit {0}
WhenFits netlist (Some when) = HasWidth netlist when 1

abbrev pub ArrayFits : Netlist → Cells → Type 0
ArrayFits netlist cells =
    HasWidth netlist cells.value cells.width × HasWidth netlist cells.addr cells.addr_width × WhenFits netlist cells.when

-- what feeds a storage has its width
abbrev pub StorageFits : Netlist → Storage → Type 0
StorageFits netlist (Register name width input when) = HasWidth netlist input width × WhenFits netlist when
StorageFits netlist (Memory cells) = ArrayFits netlist cells
StorageFits netlist (File cells) = ArrayFits netlist cells

-- each net and each storage has the width that feeds it
pub record IsTyped (netlist : Netlist) : Type 0 where
  pub nets : (n : ℕ) → NetFits netlist (slice_get netlist.nets n)
  pub storages : AllByRecursion (StorageFits netlist) netlist.storages
  pub few : length netlist.nets < 2 ^ 32

-- the values of a state fit
pub record StateFits (netlist : Netlist) (s : State) : Type 0 where
  pub regs : (id : ℕ) → slice_index s.regs id < 2 ^ storage_bits (slice_get netlist.storages id)
  pub cells : (space : Space) (a : ℕ) → slice_index (held s space) a < 2 ^ width_in space netlist.storages

-- an instruction word fits
pub record WordFits (netlist : Netlist) (word : ℕ) : Type 0 where
  pub fits : (code : ℕ) → 0 < code_bits (slice_get netlist.codes code) →
      word < 2 ^ code_bits (slice_get netlist.codes code)

-- these values fit their nets
pub record ValuesFit (netlist : Netlist) (v : ℕ → ℕ) : Type 0 where
  pub fits : (n : ℕ) → v n < 2 ^ width_at netlist n

-- a state that fits the netlist's widths and sizes
pub record IsState (netlist : Netlist) (s : State) : Type 0 where
  pub regs : length s.regs ≡ length netlist.storages
  pub cells : (space : Space) → length (held s space) ≡ size_in space netlist.storages
  pub fits : StateFits netlist s
