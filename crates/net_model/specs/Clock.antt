-- One clock edge: all storages change together, from the old values. One equation for each
-- storage. The word is the one at the program counter, and 0 past the words. Where a bus has two
-- enabled drivers the clock clashes, with the first such bus. Otherwise each register without a
-- `when`, or with one of value 1, gets its input's value, each space's cell at the written address
-- likewise, and all else stays: all from the old state. `run` is many clocks.
use Rattle.std.specs.Prelude.{ℕ, zero, suc, ◌+◌, ◌==◌, nat_lt, if◌then◌else◌, List, [], ◌∷◌, Option, Some, None, slice_index, slice_set, position, Bool, true, false}
use Rattle.net_model.specs.declared.hardware.Netlist.{Netlist}
use Rattle.net_model.specs.declared.hardware.Net.{Net}
use Rattle.net_model.specs.declared.hardware.Storage.{Storage}
use Rattle.net_model.specs.declared.hardware.Storage.TheVariants.{Register, Memory, File}
use Rattle.net_model.specs.declared.hardware.Cells.{Cells}
use Rattle.net_model.specs.declared.hardware.Space.{Space}
use Rattle.net_model.specs.declared.hardware.Space.TheVariants.{Memory as InMemory, File as InFile}
use Rattle.net_model.specs.declared.hardware.Gate.{Gate}
use Rattle.net_model.specs.declared.hardware.Gate.TheVariants.{Bus}
use Rattle.net_model.specs.declared.states.State.{State}
use Rattle.net_model.specs.Nets.{counter_of, array_in}
use Rattle.net_model.specs.Value.{value_of}

-- ---- clashes

-- how many drivers are enabled
abbrev pub enabled_count : (ℕ → ℕ) → List (ℕ × ℕ) → ℕ
enabled_count v [] = 0
enabled_count v (driver ∷ drivers) = (if v driver.1 == 1 then 1 else 0) + enabled_count v drivers

-- a bus with two enabled drivers clashes
abbrev pub gate_clashes : (ℕ → ℕ) → Gate → Bool
gate_clashes v (Bus drivers) = nat_lt 1 (enabled_count v drivers)
gate_clashes v _ = false

-- the first bus that clashes
abbrev pub clash_in : (ℕ → ℕ) → List Net → Option ℕ
clash_in v nets = position (λ net. gate_clashes v net.gate) nets

-- ---- storages, where v gives the values of the nets

-- a storage without a `when`, or with a `when` of value 1, takes its input
abbrev pub is_enabled : (ℕ → ℕ) → Option ℕ → Bool
is_enabled v None = true
is_enabled v (Some when) = v when == 1

-- what a storage's entry becomes
abbrev pub next_reg : (ℕ → ℕ) → Storage → ℕ → ℕ
next_reg v (Register name width input when) old = if is_enabled v when then v input else old
next_reg v (Memory cells) old = old
next_reg v (File cells) old = old

abbrev pub next_regs : (ℕ → ℕ) → List Storage → List ℕ → List ℕ
next_regs v [] olds = olds
next_regs v (storage ∷ storages) [] = []
next_regs v (storage ∷ storages) (old ∷ olds) = next_reg v storage old ∷ next_regs v storages olds

-- what cells become; an address past them changes nothing
abbrev pub written : (ℕ → ℕ) → Option Cells → List ℕ → List ℕ
written v None olds = olds
written v (Some cells) olds = if is_enabled v cells.when then slice_set olds (v cells.addr) (v cells.value) else olds

abbrev pub next_cells : (ℕ → ℕ) → Space → List Storage → List ℕ → List ℕ
next_cells v space storages olds = written v (array_in space storages) olds

abbrev pub next_state : (ℕ → ℕ) → Netlist → State → State
next_state v netlist s = record {
  regs = next_regs v netlist.storages s.regs;
  cells = next_cells v InMemory netlist.storages s.cells;
  file = next_cells v InFile netlist.storages s.file;
}

-- ---- the clock

-- what a clock leads to: the next state, or a clash of a bus
pub data Outcome : Type 0 where
  Next : State → Outcome
  Clash : ℕ → Outcome

abbrev pub outcome_of : (ℕ → ℕ) → Netlist → State → Option ℕ → Outcome
outcome_of v netlist s (Some bus) = Clash bus
outcome_of v netlist s None = Next (next_state v netlist s)

-- the program counter's value
abbrev pub counter_in : Netlist → State → ℕ
counter_in netlist s = slice_index s.regs (counter_of netlist.codes)

-- the instruction word at the program counter, and 0 past the words
abbrev pub word_at : Netlist → List ℕ → State → ℕ
word_at netlist words s = slice_index words (counter_in netlist s)

-- a clock under this word
abbrev pub step : Netlist → State → ℕ → Outcome
step netlist s word = outcome_of (value_of netlist s word) netlist s (clash_in (value_of netlist s word) netlist.nets)

abbrev pub clock : Netlist → List ℕ → State → Outcome
clock netlist words s = step netlist s (word_at netlist words s)

-- ---- many clocks

-- the state after some clocks, or the first clash with its cycle and bus
pub data Run : Type 0 where
  Reached : State → Run
  Clashed : (cycle bus : ℕ) → Run

-- a clock, and then what comes after it
abbrev pub then_run : ℕ → (State → Run) → Outcome → Run
then_run cycle later (Next t) = later t
then_run cycle later (Clash bus) = Clashed cycle bus

-- so many clocks, the first of this cycle
abbrev pub run_from : ℕ → Netlist → List ℕ → State → ℕ → Run
run_from cycle netlist words s zero = Reached s
run_from cycle netlist words s (suc n) =
    then_run cycle (λ t. run_from (cycle + 1) netlist words t n) (clock netlist words s)

abbrev pub run : Netlist → List ℕ → State → ℕ → Run
run netlist words s n = run_from 0 netlist words s n
