-- What a decoded netlist keeps.
use Rattle.std.specs.Prelude.{ℕ, ◌<◌, ◌≤◌, ◌≡◌, List, [], ◌∷◌, ◌++◌, Option, Some, None, length, slice_get, slice_index, nat_lt, if◌then◌else◌}
use Rattle.net_model.specs.declared.hardware.Netlist.{Netlist}
use Rattle.net_model.specs.declared.hardware.Net.{Net}
use Rattle.net_model.specs.declared.hardware.Gate.{Gate}
use Rattle.net_model.specs.declared.hardware.Gate.TheVariants.{Word, Reg, Const, Wire, Zext}
use Rattle.net_model.specs.declared.states.State.{State}
use Rattle.net_model.specs.declared.hardware.Space.{Space}
use Rattle.net_model.specs.declared.hardware.Space.TheVariants.{Memory as InMemory, File as InFile}
use Rattle.net_model.specs.Nets.{array_in}
use Rattle.cycle_sim.specs.declared.edge.Port.{Port}
use Rattle.net_model.specs.Clock.{clash_in, enabled_count, is_enabled, next_cells, next_regs}
use Rattle.net_model.specs.Order.{position_of}
use Rattle.net_model.specs.Value.{value_of}
use Rattle.net_model.specs.Widths.{StateFits, WordFits}
use Rattle.cycle_sim.specs.declared.edge.BusDrivers.{BusDrivers}
use Rattle.cycle_sim.specs.declared.edge.Latch.{Latch}
use Rattle.cycle_sim.specs.declared.edge.Latch.TheVariants.{Input, Held}
use Rattle.cycle_sim.specs.declared.operation.Instruction.{Instruction}
use Rattle.cycle_sim.specs.declared.operation.Operation.{Operation}
use Rattle.cycle_sim.specs.declared.program.Program.{Program}
use Rattle.cycle_sim.specs.Clocks.{cell_net}
use Rattle.cycle_sim.specs.Inner.Decoding.{source_in}
use Rattle.cycle_sim.specs.Inner.Operations.{AreReady, AreWithin, filled, run_of}
use Rattle.cycle_sim.specs.Inner.Ports.{cell_by, cells_by}

-- ---- a clock over places, where v gives the number at each place

-- the first bus with more than one enabled driver
abbrev pub clash_by : (ℕ → ℕ) → List BusDrivers → Option ℕ
clash_by v [] = None
clash_by v (bus ∷ buses) = if nat_lt 1 (enabled_count v bus.drivers) then Some bus.net else clash_by v buses

-- what a storage's entry becomes
abbrev pub latched : (ℕ → ℕ) → Latch → ℕ → ℕ
latched v (Input input when) old = if is_enabled v when then v input else old
latched v Held old = old

abbrev pub regs_by : (ℕ → ℕ) → List Latch → List ℕ → List ℕ
regs_by v [] olds = olds
regs_by v (latch ∷ latches) [] = []
regs_by v (latch ∷ latches) (old ∷ olds) = latched v latch old ∷ regs_by v latches olds

-- ---- places

-- the gate has a place of its own
abbrev pub IsPlainGate : Gate → Type 0
IsPlainGate (Wire a) = ⊥
IsPlainGate (Zext a) = ⊥
IsPlainGate _ = Unit {0}

abbrev pub IsPlain : Option Net → Type 0
IsPlain None = Unit {0}
IsPlain (Some net) = IsPlainGate net.gate

-- a place where the value of the net m stands: that of a net with a place of its own, not after m
-- in the order, with the same value
pub record IsSource (netlist : Netlist) (order : List ℕ) (m x : ℕ) : Type 0 where
  pub within : x < length netlist.nets
  pub earlier : position_of order x ≤ position_of order m
  pub plain : IsPlain (slice_get netlist.nets x)
  pub same : (s : State) (word : ℕ) → value_of netlist s word x ≡ value_of netlist s word m

-- a place for each net
pub record AreSources (netlist : Netlist) (order sources : List ℕ) : Type 0 where
  pub long : length sources ≡ length netlist.nets
  pub each : (m : ℕ) → m < length netlist.nets → IsSource netlist order m (source_in sources m)

-- ---- rooms

abbrev pub HoldsGate : Gate → ℕ → Type 0
HoldsGate (Const c) x = x ≡ c
HoldsGate _ x = Unit {0}

-- a constant stands in its place
abbrev pub HoldsNet : Option Net → ℕ → Type 0
HoldsNet None x = Unit {0}
HoldsNet (Some net) x = HoldsGate net.gate x

-- an array with a place for each net, in which the constants stand
pub record IsRoom (netlist : Netlist) (values : List ℕ) : Type 0 where
  pub long : length values ≡ length netlist.nets
  pub constants : (n : ℕ) → HoldsNet (slice_get netlist.nets n) (slice_index values n)

-- what needs no instruction stands in its place: a constant, the word and the state of a register
abbrev pub StandsGate : State → ℕ → Gate → ℕ → Type 0
StandsGate s word (Word code) x = x ≡ word
StandsGate s word (Reg id) x = x ≡ slice_index s.regs id
StandsGate s word (Const c) x = x ≡ c
StandsGate s word _ x = Unit {0}

abbrev pub StandsNet : State → ℕ → Option Net → ℕ → Type 0
StandsNet s word None x = Unit {0}
StandsNet s word (Some net) x = StandsGate s word net.gate x

-- a room whose inlets have their numbers
pub record IsFilled (netlist : Netlist) (s : State) (word : ℕ) (values : List ℕ) : Type 0 where
  pub long : length values ≡ length netlist.nets
  pub stands : (n : ℕ) → StandsNet s word (slice_get netlist.nets n) (slice_index values n)

-- ---- instructions

abbrev pub added : ℕ → Option Operation → List Instruction → List Instruction
added n None instructions = instructions
added n (Some operation) instructions = instructions ++ record { place = n; operation = operation } ∷ []

-- instructions that leave in any filled room the value of each net with a place of its own
pub record Runs (netlist : Netlist) (instructions : List Instruction) : Type 0 where
  pub ready : AreReady (length netlist.nets) instructions
  pub right : (s : State) (word : ℕ) (room : List ℕ) → StateFits netlist s → WordFits netlist word →
      IsFilled netlist s word room → (n : ℕ) → n < length netlist.nets →
      IsPlain (slice_get netlist.nets n) →
      slice_index (run_of s instructions room) n ≡ value_of netlist s word n

-- ---- programs

-- how the cells of a space are written
abbrev pub port_at : Program → Space → Option Port
port_at program InMemory = program.port
port_at program InFile = program.file_port

-- an array from which buses, registers and memory take what they take from the values of the nets
pub record RunsAs (netlist : Netlist) (s : State) (word : ℕ) (values : List ℕ) (program : Program) : Type 0 where
  pub room : IsRoom netlist values
  pub clash : clash_by (slice_index values) program.buses ≡ clash_in (value_of netlist s word) netlist.nets
  pub regs : (regs : List ℕ) →
      regs_by (slice_index values) program.latches regs
      ≡ next_regs (value_of netlist s word) netlist.storages regs
  pub cells : (space : Space) (olds : List ℕ) →
      cells_by (slice_index values) (port_at program space) olds
      ≡ next_cells (value_of netlist s word) space netlist.storages olds
  pub written : (size : ℕ) →
      cell_by (slice_index values) program.port size
      ≡ cell_net (value_of netlist s word) (array_in InMemory netlist.storages) size

-- a program that does in any room what the netlist does in each state under each word
pub record IsProgram (netlist : Netlist) (program : Program) : Type 0 where
  pub within : AreWithin (length netlist.nets) program.inlets
  pub ready : AreReady (length netlist.nets) program.instructions
  pub long : length program.latches ≡ length netlist.storages
  pub follows : (s : State) (word : ℕ) (room : List ℕ) → StateFits netlist s → WordFits netlist word →
      IsRoom netlist room →
      RunsAs netlist s word
      (run_of s program.instructions (filled s.regs word program.inlets room)) program
